-- A tree that is off by one at a node, in the public terms: where its repair begins, and how it ends.
use Rattle.btree_laws.proofs.Common.{◌≡◌, ◌<◌, ◌≤◌, [], ◌∙◌, ◌+◌, ◌==◌, if◌then◌else◌, ℕ, zero, suc, List, length, Option, Some, None, IsSome, refl, sym, ap, subst, arith, IsTotalOrder, Ordering, Address, NodeMap, View, most_of, size_of, IsUnsizedFocus, MayOverflowAt, IsRepaired, path_need_from, path_need, split_need, IsExemptNode, IsAddressed, count_at, most_at, view_at, MayUnderflowAt, debt, debt_of, numbers_under, Claims, strain_of, strain_under, Path, depth, least_at, parent_above, top, under, IsFormed, IsNearlySized, IsOffByOne, IsWellFormed, times_used, same_Some}
use Rattle.btree_laws.specs.Focus.Need.{IsCountingUpward}
use Rattle.btree_laws.proofs.Splits.Room.{most-seven}
use Rattle.btree_laws.proofs.Splits.Claims.{claimed}
use Rattle.btree_laws.proofs.Paths.Frames.{top-view}
use Rattle.btree_laws.proofs.Places.OfTree.{off-on, on-whole}
use Rattle.btree_laws.proofs.Paths.Levels.{levels-rooted}
use Rattle.btree_laws.proofs.Paths.Used.{less-no}
use Rattle.btree_laws.proofs.Splits.Need.{split_need-is, upward-start}
use Rattle.btree_laws.proofs.Splits.Insertion.{repaired-rooted}
use Rattle.btree_laws.proofs.Paths.FromRoot.{off-at}
use Rattle.btree_laws.proofs.Trees.Sizes.{view-most, view-size}
use Rattle.btree_laws.proofs.Paths.UnsizedFocus.{focus-unsized}
use Rattle.btree_laws.proofs.Strain.Sums.{strain-unsized}

some-used : {X : Type 0} (o : Option X) → IsSome o → 0 < times_used o
some-used None i = absurd (cc)
some-used (Some x) i = omega arith

module _ (A : Type 0) where
  debt-low : (h : ℕ) (c : Path A h) (n : ℕ) → debt c n ≤ (if n == 0 then 1 else 0)
  debt-low h top zero = omega arith
  debt-low h top (suc n) = omega arith
  debt-low h (under f c) n = omega arith

module _ {K V : Type 0} (cmp : K → K → Ordering) (laws : IsTotalOrder cmp) (node_at : NodeMap (K × V)) (root exempt : ℕ)
    (xs : List (K × V)) (w : IsOffByOne cmp node_at root exempt xs) (v : View (K × V)) (e : node_at exempt ≡ Some v) where
  -- the strain of the tree, by its nodes
  abbrev pub strain_before : ℕ
  strain_before = strain_under node_at root (numbers_under node_at w.rooted.height root)

  node : IsExemptNode (K × V) node_at root xs exempt
  node = off-at (K × V) node_at root xs exempt w.rooted (some-used (node_at exempt) w.used)

  focused : IsUnsizedFocus (K × V) node_at [] root xs node.focus.height node.focus.path node.focus.subtree
  focused = focus-unsized (K × V) node_at [] root xs node.focus.height node.focus.path node.focus.subtree node.focus.whole

  view-is : v ≡ view_at (K × V) node.focus.height (parent_above node.focus.path) node.focus.subtree
  view-is =
      let n : View (K × V) = view_at (K × V) node.focus.height (parent_above node.focus.path) node.focus.subtree in
      same_Some v n (sym e ∙ subst (λ i. node_at i ≡ Some n) node.focus.here
      (top-view (K × V) node_at node.focus.height (parent_above node.focus.path) node.focus.subtree node.focus.whole.inner))

  size-is : size_of v ≡ count_at (K × V) node.focus.height node.focus.subtree
  size-is = ap size_of view-is ∙ view-size (K × V) node.focus.height (parent_above node.focus.path) node.focus.subtree

  most-is : most_of v ≡ most_at node.focus.height
  most-is = ap most_of view-is ∙ view-most (K × V) node.focus.height (parent_above node.focus.path) node.focus.subtree

  strain-is : strain_of (K × V) node.focus.height node.focus.path node.focus.subtree ≡ strain_before
  strain-is = strain-unsized (K × V) (IsNearlySized root exempt) node_at root xs w.rooted node.focus.height node.focus.path
      node.focus.subtree focused

  depth-low : depth node.focus.path ≤ w.rooted.height
  depth-low =
      let l =
      levels-rooted (K × V) node_at root xs (IsNearlySized root exempt) w.rooted node.focus.height node.focus.path
      node.focus.subtree focused in
      omega arith

  -- the node does not overflow: an underflow fix begins at it, and ends there at once if the node does not underflow
  pub off-underflow : size_of v ≤ most_of v → (expected : Option (K × V)) (a : Address) (place : ℕ)
      → IsAddressed (K × V) node_at root xs expected a place
      → MayUnderflowAt (K × V) node_at root xs exempt expected a place 0 (strain_before + debt_of v)
  off-underflow fits expected a place d =
      let on = off-on cmp laws node_at root xs expected a place exempt w d in
      let s = size-is in
      let m = most-is in
      let st = strain-is in
      let ow = debt-low (K × V) node.focus.height node.focus.path
      (count_at (K × V) node.focus.height node.focus.subtree) in
      let o : debt_of v ≡ (if count_at (K × V) node.focus.height node.focus.subtree == 0 then 1 else 0) =
      ap (λ n. if n == 0 then 1 else 0) s in
      record {
        focus = node.focus;
        low = node.low;
        high = omega arith;
        there = on-whole (K × V) node_at [] root xs expected a place node.focus.height node.focus.path node.focus.subtree
            node.focus.whole on;
        within_strain = omega arith;
      }

  -- at the node that is off by one begins the count of the nodes that its splits need
  pub off-need : (most : ℕ) → w.rooted.height < most
      → IsCountingUpward (K × V) node_at root xs most exempt 0 (split_need node_at most exempt)
  off-need most lt =
      let d = depth-low in
      subst (λ i. IsCountingUpward (K × V) node_at root xs most i 0 (split_need node_at most i)) node.focus.here
      (upward-start (K × V) node_at root xs most node.focus.height node.focus.path node.focus.subtree focused
      (omega arith))

  -- the node overflows, and a number was claimed for each node that the splits need: the splits begin
  pub off-overflow : most_of v < size_of v → (most : ℕ) → w.rooted.height < most → (mid : NodeMap (K × V)) (spare : List ℕ)
      → Claims node_at mid spare → length spare ≡ split_need node_at most exempt
      → (expected : Option (K × V)) (a : Address) (place : ℕ) → IsAddressed (K × V) node_at root xs expected a place
      → MayOverflowAt (K × V) mid root xs exempt spare expected a place 0 strain_before
  off-overflow over most lt mid spare cl enough expected a place d =
      let on = off-on cmp laws node_at root xs expected a place exempt w d in
      let s = size-is in
      let m = most-is in
      let st = strain-is in
      let dl = depth-low in
      let c =
      split_need-is (K × V) node_at node.focus.height most node.focus.path node.focus.subtree (omega arith) focused.above focused.inner
      in
      let c2 : split_need node_at most exempt ≡ path_need_from node.focus.path (count_at (K × V) node.focus.height node.focus.subtree) =
      subst (λ i. split_need node_at most i ≡ path_need_from node.focus.path (count_at (K × V) node.focus.height node.focus.subtree))
      node.focus.here c in
      let hi = node.high in
      let f =
      less-no (count_at (K × V) node.focus.height node.focus.subtree) (most_at node.focus.height) 0 (path_need node.focus.path)
      (omega arith) in
      record {
        focus = record {
          height = node.focus.height;
          path = node.focus.path;
          subtree = node.focus.subtree;
          here = node.focus.here;
          whole = claimed (K × V) node_at mid spare root xs node.focus.height node.focus.path node.focus.subtree cl
              node.focus.whole;
        };
        low = (let l = least node.focus.height node.focus.path in let k = most-seven node.focus.height in omega arith);
        high = hi;
        enough = λ full. enough ∙ (c2 ∙ f);
        none = λ few. absurd (omega arith);
        there = on-whole (K × V) node_at [] root xs expected a place node.focus.height node.focus.path node.focus.subtree
            node.focus.whole on;
        within_strain = omega arith;
      }
    where
      least : (h : ℕ) (c : Path (K × V) h) → least_at c ≤ 3
      least h top = omega arith
      least h (under f c) = omega arith

  -- at the end of the splits or of a fix the tree is well formed with the same list
  pub fixed-well : (new : NodeMap (K × V)) (r : ℕ) (expected : Option (K × V)) (a : Address) (place freed bound : ℕ)
      → IsRepaired (K × V) new r xs expected a place freed bound → IsWellFormed cmp new (Some r) (length xs) xs
  fixed-well new r expected a place freed bound g = record {
    ascends = w.ascends;
    formed = repaired-rooted (K × V) new r xs expected a place freed bound g;
    counted = refl;
  }

  -- or the tree is empty, and well formed
  pub emptied-well : (new : NodeMap (K × V)) → IsFormed new None xs → IsWellFormed cmp new None (length xs) xs
  emptied-well new f = record { ascends = w.ascends; formed = f; counted = refl }
