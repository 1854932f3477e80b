-- An item removed and the underflow fixed: the tree afterwards. The law for any removal is `removed-by`; for one from a
-- leaf it is `removed-from-leaf`.
use Rattle.btree_ext.proofs.Common.{◌≡◌, ◌∙◌, ◌+◌, ◌<◌, ◌≤◌, ℕ, suc, inl, inr, List, length, Option, Some, None, IsSome, IsTrue, refl, sym, ap, subst, option_and_then, slice_get, arith, ◌^◌, slice_get_within, IsTotalOrder, insert, remove, Ordering, Address, is_internal, NodeMap, View, leaf, internal, children_of, item_in, most_of, size_of, address_at, times_listed, IsLeaf, IsPlace, IsValid, numbers_under, WritesNode, IsStrain, strain_under, TreeState, IsBTree, IsLeafAddressIn, IsOffByOneAt, IsPlaceIn, IsValidIn, item_of, node_map, pairs_of, IsSized, IsWellFormed, times_used, positions-addressed, item-within, len-views, HasRoom, IsRebalanced, has-place, IsInnerAt, IsRemoved}
use Rattle.std.proofs.lemmas.List.Edits.{length-remove}
use Rattle.std.specs.FinMap as map
use Rattle.btree_item.specs.Pairs.{KeyFits}
use Rattle.btree_item.proofs.PairEdits.{insert-remove}
use Rattle.btree_laws.specs.Focus.TreePositions.{IsAddressed}
use Rattle.btree_laws.specs.Represents.{Represents}
use Rattle.btree_laws.specs.Strain.{debt_of}
use Rattle.btree_laws.specs.TreeState.{HasLevels, HasLevelsUnder, HasStrain}
use Rattle.btree_laws.specs.WellFormed.{IsNearlySized, IsOffByOne}
use Rattle.btree_laws.proofs.Places.OfTree.{valid-on}
use Rattle.btree_laws.proofs.Removal.FromTree.{take-address, take-height, take-item, take-off, take-within}
use Rattle.btree_laws.proofs.Strain.OneStrain.{one-strain}
use Rattle.btree_laws.proofs.Trees.Density.{height-low}
use Rattle.btree_laws.proofs.Trees.States.{is-off, pairs-off}
use Rattle.btree_laws.proofs.Underflow.Order.{one-height}
use Rattle.btree_raw.proofs.UpwardLemmas.{put-used}
use Rattle.btree_find.specs.Fits.{FitsAt}
use Rattle.btree_ext.specs.Remove.{FreesWithinStrain, RebalancesLeaf, ReplacesIfInner, TakesFromLeaf}
use Rattle.btree_ext.proofs.ReplaceLemmas.{fits-removed}

-- one element less than before
pub remove-shorter : {X : Type 0} (xs : List X) (i : ℕ) (x : X) → slice_get xs i ≡ Some x → length (remove xs i) + 1 ≡ length xs
remove-shorter xs i x e = length-remove xs i (slice_get_within xs i x e)

module _ {K V : Type 0} (s : TreeState K V) (a : Address) where
  -- only one child is before the item at an address
  pub one-left : (left other : ℕ) → IsInnerAt s a left → IsInnerAt s a other → left ≡ other
  one-left left other p q =
      let node : p.node ≡ q.node = (let e = p.here in let f = q.here in cc) in
      let index : p.index ≡ q.index = (let e = p.offset in let f = q.offset in cc) in
      let e : Some left ≡ Some other =
      sym p.child ∙ ap (λ v. slice_get (children_of v) p.index) node ∙ ap (λ n. slice_get (children_of q.node) n) index ∙ q.child in
      cc

  -- an item of a leaf is not one of an internal node
  pub no-inner : (parent : Option ℕ) (xs : List (K × V)) → node_map s a.id ≡ Some (leaf parent xs) → (left : ℕ) → IsInnerAt s a left → ⊥
  no-inner parent xs here left p =
      let node : p.node ≡ leaf parent xs = (let e = p.here in cc) in
      let kind : IsTrue (is_internal (leaf parent xs)) = subst (λ v. IsTrue (is_internal v)) node p.kind in
      absurd (cc)

  -- an item of an internal node is not one of a leaf
  pub no-leaf : (root : ℕ) → s.root ≡ Some root → (left : ℕ) → IsInnerAt s a left → IsLeafAddressIn s a → ⊥
  no-leaf root top left p at = elim at [
    | inl in_leaf ↦ by p.node p.here p.kind in_leaf
    | inr nowhere ↦ let none = nowhere.0 in absurd (cc)
  ]
    where
      by : (v : View (K × V)) → node_map s a.id ≡ Some v → IsTrue (is_internal v) → IsLeaf (node_map s) (node_map s a.id) → ⊥
      by (leaf parent xs) here kind in_leaf = absurd (cc)
      by (internal parent first branches) here kind in_leaf = subst (IsLeaf (node_map s)) here in_leaf

module _ {K V : Type 0} (cmp : K → K → Ordering) (old mid : TreeState K V) (root : ℕ)
    (well : IsWellFormed cmp (node_map old) (Some root) old.len (pairs_of old)) where
  -- as many nodes, if the same numbers are in use
  pub as-many-used : ((n : ℕ) → times_used (node_map mid n) ≡ times_used (node_map old n))
      → map.len mid.nodes ≡ map.len old.nodes
  as-many-used used =
      let ids = numbers_under (node_map old) well.formed.height root in
      let each : (n : ℕ) → times_listed n ids ≡ times_used (node_map old n) = well.formed.once in
      len-views mid.nodes ids (λ n. each n ∙ sym (used n)) ∙ sym (len-views old.nodes ids each)

  -- after any removal: the tree is off by one at node `exempt`, the pair x, which was at address a, is gone, and address
  -- f is at its place; `rebalance` makes f to b
  module _ (laws : IsTotalOrder cmp) (at-root : old.root ≡ Some root) (top : mid.root ≡ old.root) (exempt place : ℕ) (a f : Address) (x : K × V)
      (took : IsOffByOne cmp (node_map mid) root exempt (remove (pairs_of old) place))
      (high : took.rooted.height ≡ well.formed.height)
      (node : View (K × V)) (here : node_map mid exempt ≡ Some node) (room : size_of node ≤ most_of node)
      (owes : strain_under (node_map mid) root (numbers_under (node_map mid) took.rooted.height root) + debt_of node
      ≤ suc (strain_under (node_map old) root (numbers_under (node_map old) well.formed.height root)))
      (as-many : map.len mid.nodes ≡ map.len old.nodes)
      (had : item_of old a ≡ Some x) (at : IsPlaceIn old a place) (listed : slice_get (pairs_of old) place ≡ Some x)
      (f-place : IsPlaceIn mid f place) (f-back : IsSome f.offset)
      (new : TreeState K V) (b : Address) (len : mid.len + 1 ≡ old.len) (uncounted : mid.kept ≡ old.kept)
      (r : IsRebalanced mid new exempt cmp f b) (at-leaf : TakesFromLeaf old new cmp a b) (at-inner : ReplacesIfInner old new cmp a b) where
    old-tree : IsBTree cmp old
    old-tree = subst (λ t. IsWellFormed cmp (node_map old) t old.len (pairs_of old)) (sym at-root) well

    root-mid : mid.root ≡ Some root
    root-mid = top ∙ at-root

    pairs-mid : pairs_of mid ≡ remove (pairs_of old) place
    pairs-mid = pairs-off cmp mid root exempt (remove (pairs_of old) place) root-mid took

    -- as many levels as before
    same-levels : (levels : ℕ) → HasLevels old levels → HasLevels mid levels
    same-levels levels are =
        let l = subst (λ t. HasLevelsUnder old t levels) at-root are in
        let e = one-height (node_map old) root (pairs_of old) well.formed.height l.0 well.formed.represents l.1 in
        let n = l.2 in
        let there : Represents (node_map mid) took.rooted.height None root (pairs_of mid) =
        subst (λ z. Represents (node_map mid) took.rooted.height None root z) (sym pairs-mid) took.rooted.represents in
        subst (λ t. HasLevelsUnder mid t levels) (sym root-mid)
        (took.rooted.height, there, (let q : levels ≡ suc took.rooted.height = omega arith in q))

    abbrev before : ℕ
    before = strain_under (node_map old) root (numbers_under (node_map old) well.formed.height root)

    strain-before : HasStrain old before
    strain-before =
        subst (λ t. IsStrain (node_map old) t before) (sym at-root)
        (numbers_under (node_map old) well.formed.height root, well.formed.once, refl)

    abbrev between : ℕ
    between = strain_under (node_map mid) root (numbers_under (node_map mid) took.rooted.height root)

    strain-between : HasStrain mid between
    strain-between =
        subst (λ t. IsStrain (node_map mid) t between) (sym root-mid)
        (numbers_under (node_map mid) took.rooted.height root, took.rooted.once, refl)

    new-pairs : pairs_of new ≡ remove (pairs_of old) place
    new-pairs = r.pairs ∙ pairs-mid

    frees : FreesWithinStrain old new
    frees =
        let f = r.freed (record { node = node; here = here; room = room }) in
        let s = one-strain (node_map mid) mid.root r.before between r.strain_before strain-between in
        let w = f.within_strain in
        record {
          freed = f.freed;
          fewer = sym as-many ∙ f.fewer;
          few = λ levels are. f.within levels (same-levels levels are);
          before = before;
          after = r.after;
          strain_before = strain-before;
          strain_after = r.strain_after;
          within_strain = omega arith;
        }

    new-tree : IsBTree cmp new
    new-tree =
        let n = remove-shorter (pairs_of old) place x listed in
        let c = well.counted in
        let l = r.len in
        let m = ap length new-pairs in
        record { ascends = r.well.ascends; formed = r.well.formed; counted = omega arith }

    fits : FitsAt cmp x.0 new b
    fits = record {
      place = place;
      has = has-place cmp laws new new-tree b place (r.place place f-place);
      fits =
          subst (λ l. KeyFits cmp x.0 place l) (sym new-pairs)
          (fits-removed cmp laws (pairs_of old) place x well.ascends listed);
    }

    pub removed-by : IsRemoved old new cmp a x b
    removed-by =
        let l = r.len in
        record {
          tree = new-tree;
          had = had;
          place = place;
          has = has-place cmp laws old old-tree a place at;
          listed = listed;
          pairs = new-pairs;
          restores = ap (λ l. insert l place x) new-pairs ∙ insert-remove (pairs_of old) place x listed;
          valid = r.valid;
          there = has-place cmp laws new new-tree b place (r.place place f-place);
          back = r.back f-back;
          fits = fits;
          shorter = omega arith;
          frees = frees;
          uncounted = r.uncounted ∙ uncounted;
          leaf = at-leaf;
          inner = at-inner;
        }

module _ {K V : Type 0} (cmp : K → K → Ordering) (laws : IsTotalOrder cmp) (old mid : TreeState K V) (tree : IsBTree cmp old)
    (a : Address) (o : ℕ) (offset : a.offset ≡ Some o) (p : Option ℕ) (ys : List (K × V)) (x : K × V)
    (here : node_map old a.id ≡ Some (leaf p ys)) (stood : slice_get ys o ≡ Some x)
    (put : WritesNode (node_map old) (node_map mid) a.id (leaf p (remove ys o))) (top : mid.root ≡ old.root) where
  abbrev node_at : NodeMap (K × V)
  node_at = node_map old

  abbrev xs : List (K × V)
  xs = pairs_of old

  pub rooted : (t : Option ℕ) → old.root ≡ t → (root : ℕ) × (old.root ≡ Some root)
  rooted None e =
      let w = subst (λ t. IsWellFormed cmp node_at t old.len xs) e tree in
      let none = w.formed.0 a.id in
      absurd (cc)
  rooted (Some root) e = (root, e)

  abbrev root : ℕ
  root = (rooted old.root refl).0

  at-root : old.root ≡ Some root
  at-root = (rooted old.root refl).1

  mid-root : mid.root ≡ Some root
  mid-root = top ∙ at-root

  pub well : IsWellFormed cmp node_at (Some root) old.len xs
  well = subst (λ t. IsWellFormed cmp node_at t old.len xs) at-root tree

  abbrev pub taken-room : HasRoom (node_map mid) a.id
  taken-room = record {
    node = leaf p (remove ys o);
    here = put.here;
    room = let n = remove-shorter ys o x stood in let m = (well.formed.sized a.id (leaf p ys) here).1 in omega arith;
  }

  module _ (small : old.len < 2 ^ 64) where
    low : well.formed.height < 32
    low = height-low (K × V) node_at root xs well.formed (let c = well.counted in omega arith)

    a-is : a ≡ address_at a.id o
    a-is = λ i. record { id = a.id; offset = offset i }

    item-here : item_in (node_at a.id) o ≡ Some x
    item-here = ap (λ v. item_in v o) here ∙ stood

    pub place-on : (place : ℕ) × IsPlace node_at (Some root) xs a.id (Some o) place
    place-on =
        let n = valid-on (K × V) node_at root xs None (address_at a.id o) (IsSized root) well.formed (inl (item-within node_at o x (node_at a.id) item-here)) tt in
        let d = positions-addressed (K × V) node_at root xs None (address_at a.id o) (IsSized root) n.place well.formed n.on in
        (n.place, d.at_place)

    abbrev place : ℕ
    place = place-on.0

    abbrev took : IsOffByOne cmp (node_map mid) root a.id (remove xs place)
    took = take-off cmp laws node_at root old.len xs well low (node_map mid) a.id p ys o place x here stood place-on.1 put

    listed : slice_get xs place ≡ Some x
    listed = take-item cmp laws node_at root old.len xs well low (node_map mid) a.id p ys o place x here stood place-on.1 put

    -- so the tree has a pair
    pub taken-counted : 1 ≤ old.len
    taken-counted =
        let n = slice_get_within xs place x listed in
        let c = well.counted in
        omega arith

    there : IsAddressed (K × V) (node_map mid) root (remove xs place) None a place
    there =
        subst (λ (b : Address). IsAddressed (K × V) (node_map mid) root (remove xs place) None b place) (sym a-is)
        (positions-addressed (K × V) (node_map mid) root (remove xs place) None (address_at a.id o) (IsNearlySized root a.id) place took.rooted
        (take-address cmp laws node_at root old.len xs well low (node_map mid) a.id p ys o place x here stood place-on.1 put))

    pub taken-pairs : pairs_of mid ≡ remove xs place
    taken-pairs = pairs-off cmp mid root a.id (remove xs place) mid-root took

    -- what `rebalance` requires
    pub taken-off : IsOffByOneAt cmp mid a.id
    taken-off = is-off cmp mid root a.id (remove xs place) mid-root took

    pub taken-valid : IsValidIn mid a
    taken-valid = subst (λ t. IsValid (node_map mid) t a.id a.offset) (sym mid-root) there.valid

    taken-place : IsPlaceIn mid a place
    taken-place =
        subst (λ l. IsPlace (node_map mid) mid.root l a.id a.offset place) (sym taken-pairs)
        (subst (λ t. IsPlace (node_map mid) t (remove xs place) a.id a.offset place) (sym mid-root) there.at_place)

    at-place : IsPlaceIn old a place
    at-place =
        subst (λ t. IsPlace node_at t xs a.id a.offset place) (sym at-root)
        (subst (λ q. IsPlace node_at (Some root) xs a.id q place) (sym offset) place-on.1)

    had : item_of old a ≡ Some x
    had = ap (option_and_then (item_in (node_at a.id))) offset ∙ item-here

    -- after the underflow is fixed
    pub removed-from-leaf : (new : TreeState K V) (b : Address) → mid.len + 1 ≡ old.len → mid.kept ≡ old.kept
        → IsRebalanced mid new a.id cmp a b → RebalancesLeaf old new cmp a b → IsRemoved old new cmp a x b
    removed-from-leaf new b len uncounted r taken =
        removed-by cmp old mid root well laws at-root top a.id place a a x took
        (take-height cmp laws node_at root old.len xs well low (node_map mid) a.id p ys o place x here stood place-on.1 put)
        (leaf p (remove ys o)) put.here taken-room.room
        (take-within cmp laws node_at root old.len xs well low (node_map mid) a.id p ys o place x here stood place-on.1 put)
        (as-many-used cmp old mid root well
        (put-used node_at (node_map mid) a.id (leaf p ys) (leaf p (remove ys o)) here put))
        had at-place listed taken-place (subst (λ q. IsSome q) (sym offset) refl) new b len uncounted r
        (λ at. taken) (λ left inner. absurd (no-inner old a p ys here left inner))
