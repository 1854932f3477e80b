-- How high a tree is, and how many items its levels require.
use Rattle.btree_laws.proofs.Common.{◌≡◌, ◌<◌, ◌≤◌, ◌++◌, ◌∷◌, [], ℕ, zero, suc, List, length, Option, Some, refl, ap, arith, length-append, NodeMap, levels_below, Holds, IsFilled, IsFilledBelow, Subtree, count_at, id_of, items_under, later_items, Path, items_after, items_before, least_at, top, under, IsFocus}

module _ (A : Type 0) where
  -- the levels below a node are the height of its subtree
  pub levels-is : (node_at : NodeMap A) (h n : ℕ) (p : Option ℕ) (t : Subtree A h) → h ≤ n → Holds A node_at h p t
      → levels_below node_at n (id_of A h t) ≡ h
  levels-is node_at zero zero p t le d = refl
  levels-is node_at zero (suc n) p t le d = rw d
  levels-is node_at (suc h) zero p t le d = absurd (omega arith)
  levels-is node_at (suc h) (suc n) p t le d = rw d.0 (ap suc (levels-is node_at h n (Some t.0) t.1 (omega arith) d.1))

  some-items : (h : ℕ) (first : Subtree A h) (bs : List (A × Subtree A h)) → 0 < length bs
      → h < length (items_under A h first) → suc h < length (items_under A h first ++ later_items A h bs)
  some-items h first [] z r = absurd (omega arith)
  some-items h first (x ∷ bs) z r = omega (arith, length-append (items_under A h first) (later_items A h (x ∷ bs)), r)

  -- a tree has at least one item on each level
  pub high-enough : (h : ℕ) (t : Subtree A h) → 0 < count_at A h t → IsFilledBelow A h t → h < length (items_under A h t)
  high-enough zero t pos b = pos
  high-enough (suc h) t pos b = some-items h t.1 t.2 pos (high-enough h t.1 (omega (arith, b.0.0)) b.1)

  -- a node on a path has at least one item
  pub low-enough : (h : ℕ) (c : Path A h) → 1 ≤ least_at c
  low-enough h top = omega arith
  low-enough h (under f c) = omega arith

  pub height-fits : {node_at : NodeMap A} {root : ℕ} {xs : List A} {h : ℕ} (c : Path A h) (t : Subtree A h)
      → IsFocus A node_at [] root xs h c t → IsFilled (least_at c) h (count_at A h t) → h < length xs
  height-fits {node_at} {root} {xs} {h} c t w z =
      omega (
        arith,
        high-enough h t (omega (arith, low-enough h c, z.0)) w.below,
        ap length w.list,
        length-append
            (items_before c) (items_under A h t ++ items_after c),
        length-append (items_under A h t) (items_after c),
      )
