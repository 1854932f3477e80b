-- An item taken out of a node may be put back by `insert_exactly_at`, if the tree was off by one there with it.
use Rattle.btree_raw.proofs.Common.{◌≡◌, ◌≢◌, ◌∙◌, ◌+◌, ◌<◌, ◌≤◌, ℕ, zero, suc, List, [], ◌∷◌, Option, Some, None, refl, sym, ap, subst, arith, slice_get, option_map, remove, length-map, slice_get_within, Ordering, Address, Node, view_of, HasChildFor, with_item, without, View, leaf, internal, items_of, most_of, size_of, TreeState, IsOffByOneAt, node_map, writes_node, IsOffByOneWith, with_node}
use Rattle.std.proofs.Common.{Ok}
use Rattle.std.specs.Prelude.{map}
use Rattle.std.specs.FinMap as finite
use Rattle.std.proofs.lemmas.List.Edits.{length-remove}
use Rattle.btree_item.proofs.PairEdits.{insert-remove}
use Rattle.btree_view.specs.Edits.{without_at}
use Rattle.btree_view.specs.Removal.{removal_in}
use Rattle.btree_view.specs.View.{child_after_offset}
use Rattle.btree_view.proofs.RemovalLemmas.{item-from_removal}
use Rattle.btree_laws.proofs.Paths.Used.{full-yes}

module _ {A : Type 0} where
  -- the branch of an item
  branch-at : (bs : List (A × ℕ)) (i : ℕ) (x : A) → slice_get (map (λ b. b.0) bs) i ≡ Some x
      → (c : ℕ) × (slice_get (map {B = ℕ} (λ b. b.1) bs) i ≡ Some c) × (slice_get bs i ≡ Some (x, c))
  branch-at [] i x e = absurd (cc)
  branch-at (b ∷ bs) zero x e = let same : b.0 ≡ x = cc in (b.1, refl, ap (λ y. Some (y, b.1)) same)
  branch-at (b ∷ bs) (suc i) x e = branch-at bs i x e

  -- what an item taken out leaves, and that it gives the node when it is put back
  record IsTakenOut (v : View A) (i : ℕ) (x : A) (child : Option ℕ) : Type 0 where
    pub whole : with_item i x child (without i v) ≡ v
    pub kind : HasChildFor child (without i v)
    pub most : most_of (without i v) ≡ most_of v
    pub shorter : size_of (without i v) + 1 ≡ size_of v
    pub within : i < size_of v

  taken-out : (v : View A) (i : ℕ) (x : A) → slice_get (items_of v) i ≡ Some x → (child : Option ℕ)
      → child ≡ child_after_offset v (Some i) → IsTakenOut v i x child
  taken-out (leaf p ys) i x at child is = by child is
    where
      by : (child : Option ℕ) → child ≡ child_after_offset (leaf p ys) (Some i) → IsTakenOut (leaf p ys) i x child
      by None is = record {
        whole = ap (leaf p) (insert-remove ys i x at);
        kind = refl;
        most = refl;
        shorter = length-remove ys i (slice_get_within ys i x at);
        within = slice_get_within ys i x at;
      }
      by (Some c) is = absurd (cc)
  taken-out (internal p first bs) i x at child is = subst (λ o. IsTakenOut (internal p first bs) i x o) (sym child-is) (record {
    whole = ap (internal p first) (insert-remove bs i (x, b.0) b.2);
    kind = refl;
    most = refl;
    shorter =
        let m = length-map (remove bs i) (λ (b : A × ℕ). b.0) in
        let n = length-map bs (λ (b : A × ℕ). b.0) in
        let r = length-remove bs i (slice_get_within bs i (x, b.0) b.2) in
        omega arith;
    within = slice_get_within (items_of (internal p first bs)) i x at;
  })
    where
      b : (c : ℕ) × (slice_get (map {B = ℕ} (λ b. b.1) bs) i ≡ Some c) × (slice_get bs i ≡ Some (x, c))
      b = branch-at bs i x at

      next : i + 1 ≡ suc i
      next = omega arith

      child-is : child ≡ Some b.0
      child-is = is ∙ (ap (λ n. slice_get (first ∷ map {B = ℕ} (λ b. b.1) bs) n) next ∙ b.1)

module _ {K V : Type 0} (cmp : K → K → Ordering) (s : TreeState K V) (a : Address) (off : IsOffByOneAt cmp s a.id) (node : Node K V)
    (at : finite.get s.nodes a.id ≡ Some node) (kept : Node K V) (taken : view_of kept ≡ without_at a.offset (view_of node)) (x : K × V) where
  here : node_map s a.id ≡ Some (view_of node)
  here = ap (option_map view_of) at

  module _ (i : ℕ) (offset : a.offset ≡ Some i) (stood : slice_get (items_of (view_of node)) i ≡ Some x) (child : Option ℕ)
      (after : child ≡ child_after_offset (view_of node) (Some i)) where
    abbrev left : View (K × V)
    left = without i (view_of node)

    abbrev now : TreeState K V
    now = with_node s a.id kept

    out : IsTakenOut (view_of node) i x child
    out = taken-out (view_of node) i x stood child after

    kept-is : view_of kept ≡ left
    kept-is = taken ∙ ap (λ o. without_at o (view_of node)) offset

    now-here : node_map now a.id ≡ Some left
    now-here = (writes_node s.nodes (finite.insert s.nodes a.id kept) a.id kept refl).here ∙ ap Some kept-is

    now-others : (n : ℕ) → n ≢ a.id → node_map now n ≡ node_map s n
    now-others = (writes_node s.nodes (finite.insert s.nodes a.id kept) a.id kept refl).others

    room : size_of left ≤ most_of left
    room =
        let z = (off.off.rooted.sized a.id (view_of node) here).1 in
        let m = out.most in
        let l = out.shorter in
        let e = full-yes a.id a.id 1 0 refl in
        omega arith

    -- a tree is off by one where an item, and the child after it, were taken out of a node
    pub put-back-at : IsOffByOneWith cmp now a x child
    put-back-at = record {
      put = s;
      puts = record {
        index = i;
        offset = offset;
        can = record {
          node = left;
          here = now-here;
          room = room;
          within = let w = out.within in let l = out.shorter in omega arith;
          kind = out.kind;
        };
        adds = record {
          nodes = record {
            here = here ∙ (ap Some (sym out.whole) ∙ sym (ap (option_map (with_item i x child)) now-here));
            others = λ n differs. sym (now-others n differs);
          };
          rest = record { rest = refl };
        };
      };
      off = off;
    }

  -- a tree is off by one where `leaf_remove` took an item out of a leaf
  pub put-back : Some (Ok x) ≡ removal_in a.offset (view_of node) → IsOffByOneWith cmp (with_node s a.id kept) a x None
  put-back is =
      let l = item-from_removal (view_of node) a.offset x is in
      put-back-at l.2 l.4 (ap (λ v. slice_get (items_of v) l.2) l.3 ∙ l.5) None
      (sym (ap (λ v. child_after_offset v (Some l.2)) l.3))
