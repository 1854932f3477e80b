-- Two adjacent siblings, one of them with too few items, as code sees them, and the steps that fix it.
use Rattle.btree_laws.proofs.Common.{◌≡◌, ◌≢◌, ◌<◌, ◌≤◌, ◌++◌, ◌∷◌, [], ◌+◌, ℕ, zero, suc, inl, inr, List, length, map, Option, Some, refl, sym, ap, subst, arith, length-append, AllByRecursion, IsTrue, option_map, Address, is_internal, with_parent, NodeMap, View, children_of, size_of, most_of, IsRepaired, times_listed, Merges, RotatesLeft, moved_by_merge, moved_by_rotate_left, moved_by_rotate_right, levels_above, first_of, Holds, IsFilled, Subtree, count_at, id_of, items_under, most_at, view_at, MayUnderflowAt, debt, strain_of, IsAt, all_positions, Path, Frame, after_in, at_branch, at_first, before_in, depth, fill, fill_two, frame_count, frame_id, frame_index, items_after, items_before, least_at, parent_above, times_used}
use Rattle.btree_laws.specs.SiblingSteps.{RotatesRight}
use Rattle.btree_laws.specs.Moved.{first_in}
use Rattle.btree_laws.proofs.Paths.Parents.{deep-enough, levels-above-is}
use Rattle.btree_laws.proofs.Paths.Frames.{fill-count, fill-id, one-other, one-zero, top-view}
use Rattle.btree_laws.proofs.Splits.Upward.{children-below}
use Rattle.btree_laws.proofs.Splits.NodeAddresses.{ids-apart}
use Rattle.btree_laws.proofs.Underflow.Merges.{merged}
use Rattle.btree_laws.proofs.Paths.Siblings.{IsPair, pair-alone, pair-near, pair-whole}
use Rattle.btree_laws.proofs.Trees.Numbers.{same-or}
use Rattle.btree_laws.proofs.Strain.Siblings.{left-strain, merge-strain, right-strain}
use Rattle.btree_laws.proofs.Underflow.TreeAddresses.{left-places, merge-places, right-places}
use Rattle.btree_laws.proofs.Underflow.Rotations.{rotate-left, rotate-right}
use Rattle.btree_laws.proofs.Trees.Sizes.{view-most, view-parent, view-size}
use Rattle.btree_laws.proofs.Splits.Trees.{fill_two-count, fill_two-id}
use Rattle.btree_laws.proofs.Splits.TwoParts.{join, times-top}
use Rattle.btree_laws.proofs.Underflow.Items.{kind-is, turned}
use Rattle.btree_laws.proofs.Splits.Room.{most-seven}

module _ (A : Type 0) (node_at : NodeMap A) (root : ℕ) (xs : List A) (expected : Option A) (a : Address) (place freed bound : ℕ) where
  -- children `left` and `right` of node `parent`, with its item at `index` between them; one of them may have an item
  -- too few: what is there, and which step leads where
  pub record AdjacentSteps (parent index left right : ℕ) : Type 0 where
    pub node : View A
    pub low : View A
    pub high : View A
    pub at_parent : node_at parent ≡ Some node
    pub at_left : node_at left ≡ Some low
    pub at_right : node_at right ≡ Some high
    pub inner : IsTrue (is_internal node)
    pub one_kind : is_internal low ≡ is_internal high
    pub apart : (left ≢ right) × (left ≢ parent) × (right ≢ parent)
    pub between : index < size_of node
    pub node_most : size_of node ≤ 7
    pub low_most : size_of low ≤ most_of low
    pub high_most : size_of high ≤ most_of high
    -- their children are other nodes
    pub children_used : (n : ℕ) → 0 < times_listed n (children_of low) + times_listed n (children_of high)
        → (0 < times_used (node_at n)) × (n ≢ parent) × (n ≢ left) × (n ≢ right)
    pub low_children : (n : ℕ) → 0 < times_listed n (children_of low)
        → option_map (with_parent (Some left)) (node_at n) ≡ node_at n
    -- one borrows an item from the other, and the tree is well formed
    pub rotate_left : (new : NodeMap A) → RotatesLeft node_at new parent index left right → size_of low ≤ 2
        → 3 < size_of high
        → IsRepaired A new root xs expected
        (moved_by_rotate_left left right parent index (size_of low) (first_in high) a) place freed bound
    pub rotate_right : (new : NodeMap A) → RotatesRight node_at new parent index left right → size_of high ≤ 2
        → 3 < size_of low
        → IsRepaired A new root xs expected
        (moved_by_rotate_right left right parent index (size_of low) (first_in high) a) place freed bound
    -- the two are merged, and the parent may have an item too few
    pub merge : (new : NodeMap A) → Merges node_at new parent index left right → size_of low + size_of high ≤ 5
        → MayUnderflowAt A new root xs parent expected
        (moved_by_merge left right parent index (size_of low) (first_in high) a) place (suc freed) bound
    -- so the fixes come to an end
    pub lower : (new : NodeMap A) → Merges node_at new parent index left right → size_of low + size_of high ≤ 5
        → (levels_above new (length xs) parent < levels_above node_at (length xs) left)
        × (levels_above new (length xs) parent < levels_above node_at (length xs) right)

module _ (A : Type 0) where
  first-of-view : (h : ℕ) (p : Option ℕ) (t : Subtree A h) → first_in (view_at A h p t) ≡ first_of A h t
  first-of-view zero p t = refl
  first-of-view (suc h) p t = refl

  -- a node's children name it as their parent
  top-parented : (node_at : NodeMap A) (h i : ℕ) (u : Subtree A h) → Holds A node_at h (Some i) u
      → option_map (with_parent (Some i)) (node_at (id_of A h u)) ≡ node_at (id_of A h u)
  top-parented node_at zero i u d = rw d refl
  top-parented node_at (suc h) i u d = rw d.0 refl

  parented : (node_at : NodeMap A) (h : ℕ) (p : Option ℕ) (t : Subtree A h) (n : ℕ) → Holds A node_at h p t
      → 0 < times_listed n (children_of (view_at A h p t))
      → option_map (with_parent (Some (id_of A h t))) (node_at n) ≡ node_at n
  parented node_at zero p t n d m = absurd (omega arith)
  parented node_at (suc h) p t n d m =
      elim (same-or n (id_of A h t.1)) [
        | inl e ↦ subst (λ k. option_map (with_parent (Some t.0)) (node_at k) ≡ node_at k) (sym e)
            (top-parented node_at h t.0 t.1 d.1)
        | inr ne ↦ each t.2 d.2 (let o = one-other n (id_of A h t.1) ne in omega arith)
      ]
    where
      each : (bs : List (A × Subtree A h)) → AllByRecursion (λ b. Holds A node_at h (Some t.0) b.1) bs
          → 0 < times_listed n (map {B = ℕ} (λ b. b.1) (map {B = A × ℕ} (λ (b : A × Subtree A h). (b.0, id_of A h b.1)) bs))
          → option_map (with_parent (Some t.0)) (node_at n) ≡ node_at n
      each [] d m = absurd (omega arith)
      each (b ∷ bs) d m =
          elim (same-or n (id_of A h b.1)) [
            | inl e ↦ subst (λ k. option_map (with_parent (Some t.0)) (node_at k) ≡ node_at k) (sym e)
                (top-parented node_at h t.0 b.1 d.0)
            | inr ne ↦ each bs d.1 (let o = one-other n (id_of A h b.1) ne in omega arith)
          ]

  module _ (node_at : NodeMap A) (root : ℕ) (xs : List A) (expected : Option A) (a : Address) (place freed bound : ℕ) where
    module _ (h : ℕ) (f : Frame A h) (c : Path A (suc h)) (l : Subtree A h) (x : A) (r : Subtree A h)
        (p : IsPair A node_at root xs h f c l x r) (z : IsFilled (least_at c) (suc h) (suc (frame_count f)))
        (th : IsAt expected a (all_positions A (suc h) c (fill_two f l x r)) place)
        (pd : freed + strain_of A (suc h) c (fill_two f l x r) ≤ bound)
        (l_least : 2 ≤ count_at A h l) (l_most : count_at A h l ≤ most_at h)
        (r_least : 2 ≤ count_at A h r) (r_most : count_at A h r ≤ most_at h)
        (least : 5 ≤ count_at A h l + count_at A h r) where
      abbrev P : ℕ
      P = frame_id f

      abbrev S : ℕ
      S = frame_index f

      abbrev I : ℕ
      I = id_of A h l

      abbrev J : ℕ
      J = id_of A h r

      abbrev Low : View A
      Low = view_at A h (Some P) l

      abbrev High : View A
      High = view_at A h (Some P) r

      low-size : size_of Low ≡ count_at A h l
      low-size = view-size A h (Some P) l

      high-size : size_of High ≡ count_at A h r
      high-size = view-size A h (Some P) r

      focus-so : (g : ℕ → Option ℕ → Address → Address) (new : NodeMap A) (at : Address → Type 0)
          → at (g (count_at A h l) (first_of A h r) a) → at (g (size_of Low) (first_in High) a)
      focus-so g new at i =
          subst (λ n. at (g n (first_in High) a)) (sym low-size)
          (subst (λ k. at (g (count_at A h l) k a)) (sym (first-of-view h (Some P) r)) i)

      rotated-left : (new : NodeMap A) → RotatesLeft node_at new P S I J → size_of Low ≤ 2 → 3 < size_of High
          → IsRepaired A new root xs expected (moved_by_rotate_left I J P S (size_of Low) (first_in High) a) place freed bound
      rotated-left new rot few many =
          let t = rotate-left A node_at new root xs h f c l x r p rot in
          let n = turned A h l x r t.new_a t.up t.new_b t.rotations in
          let nl = n.left_count in
          let nr = n.right_count in
          let ls = low-size in
          let hs = high-size in
          let m = most-seven h in
          let w =
          pair-whole A new root xs h f c t.new_a t.up t.new_b t.pair (omega arith, omega arith)
          (omega arith, omega arith) in
          let there =
          left-places A h f c l x r (pair-alone A node_at root xs h f c l x r p) t.new_a t.up t.new_b t.rotations expected a place
          th in
          let st = left-strain A h f c l x r t.new_a t.up t.new_b t.rotations (omega arith) (omega arith) in
          record {
            id = P;
            node = record {
              focus = record {
                height = suc h;
                path = c;
                subtree = fill_two f t.new_a t.up t.new_b;
                here = fill_two-id A h f t.new_a t.up t.new_b;
                whole = w;
              };
              sized = subst (λ k. IsFilled (least_at c) (suc h) k) (sym (fill_two-count A h f t.new_a t.up t.new_b)) z;
            };
            there = focus-so (λ n k v. moved_by_rotate_left I J P S n k v) new
                (λ v. IsAt expected v (all_positions A (suc h) c (fill_two f t.new_a t.up t.new_b)) place) there;
            within_strain = omega arith;
          }

      rotated-right : (new : NodeMap A) → RotatesRight node_at new P S I J → size_of High ≤ 2 → 3 < size_of Low
          → IsRepaired A new root xs expected (moved_by_rotate_right I J P S (size_of Low) (first_in High) a) place freed
          bound
      rotated-right new rot few many =
          let t = rotate-right A node_at new root xs h f c l x r p rot in
          let n = turned A h t.new_a t.up t.new_b l x r t.rotations in
          let nl = n.left_count in
          let nr = n.right_count in
          let ls = low-size in
          let hs = high-size in
          let m = most-seven h in
          let w =
          pair-whole A new root xs h f c t.new_a t.up t.new_b t.pair (omega arith, omega arith)
          (omega arith, omega arith) in
          let there =
          right-places A h f c l x r (pair-alone A node_at root xs h f c l x r p) t.new_a t.up t.new_b t.rotations expected a
          place th in
          let st = right-strain A h f c l x r t.new_a t.up t.new_b t.rotations (omega arith) (omega arith) in
          record {
            id = P;
            node = record {
              focus = record {
                height = suc h;
                path = c;
                subtree = fill_two f t.new_a t.up t.new_b;
                here = fill_two-id A h f t.new_a t.up t.new_b;
                whole = w;
              };
              sized = subst (λ k. IsFilled (least_at c) (suc h) k) (sym (fill_two-count A h f t.new_a t.up t.new_b)) z;
            };
            there = focus-so (λ n k v. moved_by_rotate_right I J P S n k v) new
                (λ v. IsAt expected v (all_positions A (suc h) c (fill_two f t.new_a t.up t.new_b)) place) there;
            within_strain = omega arith;
          }

      joined : (new : NodeMap A) → Merges node_at new P S I J → size_of Low + size_of High ≤ 5
          → MayUnderflowAt A new root xs P expected (moved_by_merge I J P S (size_of Low) (first_in High) a) place
          (suc freed) bound
      joined new mg few =
          let ls = low-size in
          let hs = high-size in
          let m = most-seven h in
          let t : Subtree A (suc h) = fill f (join A h l x r) in
          let n = fill-count A h f (join A h l x r) in
          let ow : debt c (count_at A (suc h) t) ≡ debt c (frame_count f) = ap (debt c) n in
          let there = merge-places A h f c l x r (pair-alone A node_at root xs h f c l x r p) expected a place th in
          let st = merge-strain A h f c l x r (omega arith) (omega arith) (omega arith) in
          let z0 = z.0 in
          let z1 = z.1 in
          record {
            focus = record {
              height = suc h;
              path = c;
              subtree = t;
              here = fill-id A h f (join A h l x r);
              whole = merged A node_at new root xs h f c l x r p mg (omega arith, omega arith);
            };
            low = omega arith;
            high = omega arith;
            there = focus-so (λ n k v. moved_by_merge I J P S n k v) new
                (λ v. IsAt expected v (all_positions A (suc h) c t) place) there;
            within_strain = omega arith;
          }

      children-apart : (n : ℕ) → 0 < times_listed n (children_of Low) + times_listed n (children_of High)
          → (0 < times_used (node_at n)) × (n ≢ P) × (n ≢ I) × (n ≢ J)
      children-apart n m =
          let kl = children-below A h n (Some P) l in
          let kr = children-below A h n (Some P) r in
          let tl = times-top A h n l in
          let tr = times-top A h n r in
          let o = p.once n in
          let s = (pair-near A node_at root xs h f c l x r p).sum n in (
            omega arith,
            one-zero n P (omega arith),
            one-zero n I (omega arith),
            one-zero n J (omega arith),
          )

      own-children : (n : ℕ) → 0 < times_listed n (children_of Low)
          → option_map (with_parent (Some I)) (node_at n) ≡ node_at n
      own-children n m = parented node_at h (Some P) l n p.left m

      frame-inner : IsTrue (is_internal (view_at A (suc h) (parent_above c) (fill_two f l x r)))
      frame-inner = refl

      fits-index : (f : Frame A h) → frame_index f < suc (frame_count f)
      fits-index (at_first n back) = omega arith
      fits-index (at_branch n first front y back) = omega arith

      long : depth c < length xs
      long =
          let d = deep-enough A (suc h) c p.filled in
          let inner : List A = before_in f ++ ((items_under A h l ++ x ∷ items_under A h r) ++ after_in f) in
          let e = ap length p.list in
          let a1 = length-append (items_before c) (inner ++ items_after c) in
          let a2 = length-append inner (items_after c) in
          let a3 = length-append (before_in f) ((items_under A h l ++ x ∷ items_under A h r) ++ after_in f) in
          let a4 = length-append (items_under A h l ++ x ∷ items_under A h r) (after_in f) in
          let a5 = length-append (items_under A h l) (x ∷ items_under A h r) in
          omega arith

      levels-child : (t : Subtree A h) → Holds A node_at h (Some P) t → (n : ℕ) → depth c < n
          → levels_above node_at n (id_of A h t) ≡ suc (depth c)
      levels-child t d zero lt = absurd (omega arith)
      levels-child t d (suc n) lt =
          let v : View A = view_at A (suc h) (parent_above c) (fill_two f l x r) in
          rw (top-view A node_at h (Some P) t d, view-parent A h (Some P) t)
          (ap suc (levels-above-is A node_at (suc h) n c P v (omega arith) p.parent
          (view-parent A (suc h) (parent_above c) (fill_two f l x r)) p.above))

      lower-parent : (new : NodeMap A) → Merges node_at new P S I J → size_of Low + size_of High ≤ 5
          → (levels_above new (length xs) P < levels_above node_at (length xs) I)
          × (levels_above new (length xs) P < levels_above node_at (length xs) J)
      lower-parent new mg few =
          let ls = low-size in
          let hs = high-size in
          let m = most-seven h in
          let t : Subtree A (suc h) = fill f (join A h l x r) in
          let w = merged A node_at new root xs h f c l x r p mg (omega arith, omega arith) in
          let id-is = fill-id A h f (join A h l x r) in
          let d = long in
          let above : levels_above new (length xs) (id_of A (suc h) t) ≡ depth c =
          levels-above-is A new (suc h) (length xs) c (id_of A (suc h) t) (view_at A (suc h) (parent_above c) t)
          (omega arith) (top-view A new (suc h) (parent_above c) t w.inner) (view-parent A (suc h) (parent_above c) t)
          w.above in
          let at-parent : levels_above new (length xs) P ≡ depth c =
          subst (λ i. levels_above new (length xs) i ≡ depth c) id-is above in
          let a = levels-child l p.left (length xs) d in
          let b = levels-child r p.right (length xs) d in
          (omega arith, omega arith)

      pub adjacent-steps : AdjacentSteps A node_at root xs expected a place freed bound P S I J
      adjacent-steps =
          let ls = low-size in
          let hs = high-size in
          let lm = view-most A h (Some P) l in
          let hm = view-most A h (Some P) r in
          let ns = view-size A (suc h) (parent_above c) (fill_two f l x r) in
          let nc = fill_two-count A h f l x r in
          let fi = fits-index f in
          let z1 = z.1 in
          record {
            node = view_at A (suc h) (parent_above c) (fill_two f l x r);
            low = Low;
            high = High;
            at_parent = p.parent;
            at_left = top-view A node_at h (Some P) l p.left;
            at_right = top-view A node_at h (Some P) r p.right;
            inner = frame-inner;
            one_kind = kind-is A h (Some P) (Some P) l r;
            apart = ids-apart A h P l r (pair-near A node_at root xs h f c l x r p);
            between = omega arith;
            node_most = omega arith;
            low_most = omega arith;
            high_most = omega arith;
            children_used = children-apart;
            low_children = own-children;
            rotate_left = rotated-left;
            rotate_right = rotated-right;
            merge = joined;
            lower = lower-parent;
          }
