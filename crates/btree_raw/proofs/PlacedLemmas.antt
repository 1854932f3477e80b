-- A tree that is well formed but for its length: its root, its nodes, and the places of addresses under the root.
use Rattle.btree_raw.proofs.Common.{◌≡◌, ◌<◌, ◌≤◌, ℕ, zero, suc, inl, inr, List, [], ◌∷◌, length, slice_get, Option, Some, None, refl, sym, subst, arith, length-map, IsTotalOrder, Ordering, View, leaf, internal, children_of, size_of, IsPlace, TreeState, IsUsed, node_map, pairs_of, IsWellFormed, same-or, used-one, height_held, used-view}
use Rattle.std.proofs.Common.{map}
use Rattle.std.specs.FinMap as finite
use Rattle.btree_laws.specs.AddressLaws.{IsPlaced}
use Rattle.btree_laws.specs.TreeState.{IsBTree, IsBTreeButLength}
use Rattle.btree_laws.specs.WellFormed.{least_of}
use Rattle.btree_laws.proofs.AddressLists.OnePlaceEach.{placed-formed}
use Rattle.btree_laws.proofs.Trees.Sizes.{least-other, least-root}

-- a well formed tree is one whatever its length says
pub but-length : {K V : Type 0} (cmp : K → K → Ordering) (s : TreeState K V) → IsBTree cmp s → IsBTreeButLength cmp s
but-length cmp s tree = record { ascends = tree.ascends; formed = tree.formed; counted = refl }

at-least-one : (root id : ℕ) → 1 ≤ least_of root id
at-least-one root id = elim (same-or id root) [
  | inl e ↦ let l = least-root root id e in omega arith
  | inr e ↦ let l = least-other root id e in omega arith
]

-- an internal node has a child at each index up to its number of items
pub has-child : {A : Type 0} (first : ℕ) (bs : List (A × ℕ)) (index : ℕ) → index ≤ length bs → slice_get (first ∷ map {B = ℕ} (λ b. b.1) bs) index ≡ None → ⊥
has-child first bs zero few e = absurd (cc)
has-child first [] (suc index) few e = absurd (omega arith)
has-child first (b ∷ bs) (suc index) few e = has-child b.1 bs index (omega arith) e

-- only a leaf lacks a child at an index up to its number of items
pub leaf-without : {A : Type 0} (v : View A) (index : ℕ) → index ≤ size_of v → slice_get (children_of v) index ≡ None
    → (parent : Option ℕ) × (items : List A) × (v ≡ leaf parent items)
leaf-without (leaf parent items) index low e = (parent, items, refl)
leaf-without {A} (internal parent first bs) index low e =
    let n = length-map {A = A × ℕ} {B = A} bs (λ b. b.0) in absurd (has-child first bs index (omega arith) e)

module _ {K V : Type 0} (cmp : K → K → Ordering) (laws : IsTotalOrder cmp) (s : TreeState K V) (tree : IsBTreeButLength cmp s) where
  -- a node is used only if there is a root
  module _ (id : ℕ) (v : View (K × V)) (at : node_map s id ≡ Some v) where
    root-by : (t : Option ℕ) → s.root ≡ t → (root : ℕ) × (s.root ≡ Some root)
    root-by None e =
        let w = subst (λ t. IsWellFormed cmp (node_map s) t (length (pairs_of s)) (pairs_of s)) e tree in
        let none = w.formed.0 id in
        absurd (cc)
    root-by (Some root) e = (root, e)

    pub root-there : (root : ℕ) × (s.root ≡ Some root)
    root-there = root-by s.root refl

    pub used-of : IsUsed s id
    used-of = used-view s.nodes id (let u = used-one (node_map s id) v at in omega arith)

  module _ (root : ℕ) (is : s.root ≡ Some root) where
    pub well : IsWellFormed cmp (node_map s) (Some root) (length (pairs_of s)) (pairs_of s)
    well = subst (λ t. IsWellFormed cmp (node_map s) t (length (pairs_of s)) (pairs_of s)) is tree

    pub placed : IsPlaced (node_map s) (finite.len s.nodes) root (pairs_of s)
    placed =
        placed-formed cmp laws (node_map s) (finite.len s.nodes) (pairs_of s) root (length (pairs_of s)) well
        (height_held s _ root (pairs_of s) well.formed)

    pub in-tree : (id : ℕ) (o : Option ℕ) (place : ℕ) → IsPlace (node_map s) s.root (pairs_of s) id o place
        → IsPlace (node_map s) (Some root) (pairs_of s) id o place
    in-tree id o place i = subst (λ t. IsPlace (node_map s) t (pairs_of s) id o place) is i

    pub in-state : (id : ℕ) (o : Option ℕ) (place : ℕ) → IsPlace (node_map s) (Some root) (pairs_of s) id o place
        → IsPlace (node_map s) s.root (pairs_of s) id o place
    in-state id o place i = subst (λ t. IsPlace (node_map s) t (pairs_of s) id o place) (sym is) i

    pub some-items : (id : ℕ) (v : View (K × V)) → node_map s id ≡ Some v → 0 < size_of v
    some-items id v e = omega (arith, (well.formed.sized id v e).0, at-least-one root id)
