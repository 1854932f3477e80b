-- Two children of one node are both leaves or both internal nodes.
use Rattle.btree_find.proofs.Common.{◌≡◌, ◌<◌, ◌∙◌, ℕ, zero, suc, List, Option, Some, None, refl, sym, ap, arith, option_map, slice_get, IsTotalOrder, Ordering, Node, view_of, NodeMap, View, leaf, internal, children_in, children_of, levels_below, TreeState, IsBTree, IsUsed, node_map, pairs_of, child-places, BeginsInLeaf}
use Rattle.std.specs.FinMap as finite
use Rattle.btree_laws.specs.Focus.Search.{levels_in}
use Rattle.btree_laws.specs.Place.{IsLeaf}
use Rattle.btree_laws.proofs.AddressLists.LeafEnds.{first-leaf-self}
use Rattle.btree_laws.proofs.Places.ChildPlaces.{ChildPlaces}
use Rattle.btree_find.specs.Navigation.{AreBeside}
use Rattle.btree_find.proofs.PlaceLemmas.{placed, root-there}
use Rattle.btree_find.proofs.WalkLemmas.{leaf-by-none, leaf-focus, used-of}

there : {A : Type 0} (v : Option (View A)) (index child : ℕ) → slice_get (children_in v) index ≡ Some child → (w : View A) × (v ≡ Some w)
there None index child e = absurd (cc)
there (Some w) index child e = (w, refl)

-- a node is a leaf exactly if no level is below it
lowest-leaf : {A : Type 0} (node_at : NodeMap A) (levels id : ℕ) (v : View A) → node_at id ≡ Some v → 0 < levels
    → levels_below node_at levels id ≡ 0 → IsLeaf node_at (node_at id)
lowest-leaf node_at zero id v e low z = absurd (omega arith)
lowest-leaf node_at (suc n) id (leaf parent items) e low z = rw e tt
lowest-leaf node_at (suc n) id (internal parent first branches) e low z =
    let q : levels_in (levels_below node_at n) (node_at id) ≡ suc (levels_below node_at n first) = ap (levels_in (levels_below node_at n)) e in
    absurd (omega arith)

leaf-lowest : {A : Type 0} (node_at : NodeMap A) (levels id : ℕ) (parent : Option ℕ) (items : List A) → node_at id ≡ Some (leaf parent items)
    → levels_below node_at levels id ≡ 0
leaf-lowest node_at zero id parent items e = refl
leaf-lowest node_at (suc n) id parent items e = ap (levels_in (levels_below node_at n)) e

module _ {K V : Type 0} (cmp : K → K → Ordering) (laws : IsTotalOrder cmp) (s : TreeState K V) (tree : IsBTree cmp s)
    (left right : ℕ) (b : AreBeside s left right) where
  abbrev levels : ℕ
  levels = finite.len s.nodes

  rooted : (root : ℕ) × (s.root ≡ Some root)
  rooted = let w = there (node_map s b.parent) b.index left b.first in root-there cmp laws s tree b.parent w.0 w.1

  left-places : ChildPlaces (node_map s) levels rooted.0 (pairs_of s) b.parent b.index left
  left-places =
      child-places (node_map s) levels rooted.0 (pairs_of s) (placed cmp laws s tree rooted.0 rooted.1) b.parent b.index left b.first

  right-places : ChildPlaces (node_map s) levels rooted.0 (pairs_of s) b.parent (suc b.index) right
  right-places =
      child-places (node_map s) levels rooted.0 (pairs_of s) (placed cmp laws s tree rooted.0 rooted.1) b.parent (suc b.index) right b.second

  pub left-used : IsUsed s left
  left-used = used-of cmp laws s tree left left-places.node left-places.here

  pub right-used : IsUsed s right
  right-used = used-of cmp laws s tree right right-places.node right-places.here

  module _ (node : Node K V) (at : finite.get s.nodes left ≡ Some node) (none : None ≡ slice_get (children_of (view_of node)) 0) where
    right-leaf : IsLeaf (node_map s) (node_map s right)
    right-leaf =
        let l = leaf-by-none (view_of node) (sym none) in
        let p = placed cmp laws s tree rooted.0 rooted.1 in
        let low = p.low in
        let down = left-places.one_lower in
        let beside = right-places.one_lower in
        let z = leaf-lowest (node_map s) levels left l.0 l.1 (ap (option_map view_of) at ∙ ap Some l.2) in
        lowest-leaf (node_map s) levels right right-places.node right-places.here (omega arith) (omega arith)

    pub begins-beside : BeginsInLeaf s right right
    begins-beside =
        let l = leaf-focus (node_map s) (node_map s right) right-leaf in
        let p = placed cmp laws s tree rooted.0 rooted.1 in
        record {
          first = sym (first-leaf-self (node_map s) levels rooted.0 (pairs_of s) p right l.0 l.1 l.2);
          is_leaf = right-leaf;
          begins = λ place i. i;
          same = λ q. refl;
        }
