-- A step of the iterator, and where it starts.
use Rattle.btree_walk.proofs.Common.{◌≡◌, ℕ, ◌<◌, List, [], ◌∷◌, ◌++◌, ◌∙◌, length, Some, None, ap, sym, arith, Ordering, TreeState, node_map, pairs_of, IsWellFormed, IsUnder}
use Rattle.std.proofs.Common.{◌^◌}
use Rattle.std.specs.FinMap as map
use Rattle.btree_laws.specs.WellFormed.{IsSized}
use Rattle.btree_laws.proofs.Trees.Density.{height-low}
use Rattle.btree_laws.proofs.Trees.States.{height_held}

-- the next item is above the leaf, and the next leaf is there as a list
pub next-above : {X : Type 0} (none above new items run : List X) (x : X) → none ≡ [] → above ≡ x ∷ (items ++ new) → run ≡ items → none ++ above ≡ x ∷ (run ++ new)
next-above none above new items run x e next is = ap (λ l. l ++ above) e ∙ next ∙ ap (λ l. x ∷ (l ++ new)) (sym is)

module _ {K V : Type 0} (cmp : K → K → Ordering) (s : TreeState K V) (root : ℕ) where
  -- the root has no node above it
  pub root-under : length (pairs_of s) < 2 ^ 64 → IsWellFormed cmp (node_map s) (Some root) s.len (pairs_of s) → IsUnder (node_map s) (map.len s.nodes) 0 root
  root-under low w =
      let high = height_held s (IsSized root) root (pairs_of s) w.formed in
      let few = height-low (K × V) (node_map s) root (pairs_of s) w.formed (omega arith) in
      record { height = w.formed.height; parent = None; list = pairs_of s; represents = w.formed.represents; low = omega arith; room = omega arith }
