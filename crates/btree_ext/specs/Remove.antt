-- What a removal leaves of a tree. `IsRemoved` is the main word: with `valid`, `back` and `fits` it has all that
-- `insert_at` requires to put the pair back, and `restores` says that this gives the old list. A removal may free nodes
-- and never allocates one. Its `leaf` says what is rebalanced after an item of a leaf was taken out, and its `inner` which
-- item takes the place of one of an internal node: so every removal leaves the tree that one at the address leaves.
-- `RemovesBy` is a removal at the address that a query finds, and `RemovesByKey` at that of a key.
use Rattle.std.specs.Prelude.{◌≡◌, ℕ, suc, ◌+◌, ◌≤◌, List, slice_get, is_some, Some, None, IsSome, IsTrue, if◌then◌else◌}
use Rattle.std.specs.FinMap as map
use Rattle.std.specs.List.{insert, remove}
use Rattle.std.specs.declared.cmp.Ordering.{Ordering}
use Rattle.btree_item.specs.Pairs.{before, found}
use Rattle.btree_item.specs.Address.{Address}
use Rattle.btree_view.specs.Edits.{is_internal, with_other_item_at, without_at}
use Rattle.btree_view.specs.View.{View, children_in, children_of, items_of}
use Rattle.btree_laws.specs.Step.{WritesNode}
use Rattle.btree_laws.specs.TreeState.{TreeState, HasLevels, HasStrain, IsBTree, IsLeafAddressIn, IsPlaceIn, IsValidIn, item_of, node_map, pairs_of}
use Rattle.btree_raw.specs.LastItem.{TakesLast}
use Rattle.btree_raw.specs.Rebalance.{IsRebalanced}
use Rattle.btree_find.specs.Answers.{IsFoundAt, IsFoundBy}
use Rattle.btree_find.specs.Fits.{FitsAt}
use Rattle.btree_find.specs.Navigation.{HasPlace, IsItemAt}

-- the list without the pair of this key, if it is there; `cmp x k` says on which side of k the key x is
abbrev pub removed : {K Q V : Type 0} → (K → Q → Ordering) → Q → List (K × V) → List (K × V)
removed cmp k xs = if is_some (found cmp k xs) then remove xs (before cmp k xs) else xs

module _ {K V : Type 0} (s : TreeState K V) where
  -- an item of an internal node is at the address, and `left` is the child before it
  pub record IsInnerAt (a : Address) (left : ℕ) : Type 0 where
    pub node : View (K × V)
    pub here : node_map s a.id ≡ Some node
    pub kind : IsTrue (is_internal node)
    pub index : ℕ
    pub offset : a.offset ≡ Some index
    pub item : K × V
    pub stands : slice_get (items_of node) index ≡ Some item
    pub child : slice_get (children_of node) index ≡ Some left

  -- `right` is the child after the item at the address
  abbrev pub HasChildBehind : (a : Address) (right : ℕ) → Type 0
  HasChildBehind a right = (index : ℕ) → a.offset ≡ Some index → slice_get (children_in (node_map s a.id)) (suc index) ≡ Some right

  -- the item after the place of address a is at address b
  abbrev pub LeadsBehind : (a b : Address) → Type 0
  LeadsBehind a b = (place : ℕ) → IsPlaceIn s a place → IsItemAt s (suc place) (Some b)

module _ {K V : Type 0} (old new : TreeState K V) where
  -- nodes were freed, at most as many as the tree had levels; their number and the strain afterwards are together at
  -- most the strain before, plus one for the removed item
  pub record FreesWithinStrain : Type 0 where
    pub freed : ℕ
    pub fewer : map.len old.nodes ≡ map.len new.nodes + freed
    pub few : (levels : ℕ) → HasLevels old levels → freed ≤ levels
    pub before : ℕ
    pub after : ℕ
    pub strain_before : HasStrain old before
    pub strain_after : HasStrain new after
    pub within_strain : freed + after ≤ before + 1

  -- the item at address a, in a leaf, was taken out; then the leaf was rebalanced, while address a was followed, which
  -- is address b now
  pub record RebalancesLeaf (cmp : K → K → Ordering) (a b : Address) : Type 0 where
    pub taken : TreeState K V
    pub writes : (node : View (K × V)) → node_map old a.id ≡ Some node
        → WritesNode (node_map old) (node_map taken) a.id (without_at a.offset node)
    pub rest : taken ≡ record old { nodes = taken.nodes; len = taken.len }
    pub shorter : old.len ≡ taken.len + 1
    pub rebalanced : IsRebalanced taken new a.id cmp a b

  -- so it was if address a is in a leaf
  abbrev pub TakesFromLeaf : (cmp : K → K → Ordering) (a b : Address) → Type 0
  TakesFromLeaf cmp a b = IsLeafAddressIn old a → RebalancesLeaf cmp a b

  -- in an internal node, the last item under the child before address a took the place of the one there; then the leaf
  -- that it came from was rebalanced, while the address of the next item was followed, which is address b now
  pub record ReplacesInner (cmp : K → K → Ordering) (a : Address) (left : ℕ) (b : Address) : Type 0 where
    pub last : K × V
    pub leaf : ℕ
    pub taken : TreeState K V
    pub takes : TakesLast old taken left last leaf
    pub replaced : TreeState K V
    pub writes : (node : View (K × V)) → node_map old a.id ≡ Some node
        → WritesNode (node_map taken) (node_map replaced) a.id (with_other_item_at a.offset last node)
    pub next : Address
    pub behind : LeadsBehind old a next
    pub rebalanced : IsRebalanced replaced new leaf cmp next b

  -- so it was if address a is in an internal node, with this child before it
  abbrev pub ReplacesIfInner : (cmp : K → K → Ordering) (a b : Address) → Type 0
  ReplacesIfInner cmp a b = (left : ℕ) → IsInnerAt old a left → ReplacesInner cmp a left b

  -- the pair x at address a was removed; address b is a back address at the place where it was, which its key fits
  pub record IsRemoved (cmp : K → K → Ordering) (a : Address) (x : K × V) (b : Address) : Type 0 where
    pub tree : IsBTree cmp new
    pub had : item_of old a ≡ Some x
    pub place : ℕ
    pub has : HasPlace old a place
    pub listed : slice_get (pairs_of old) place ≡ Some x
    pub pairs : pairs_of new ≡ remove (pairs_of old) place
    pub restores : insert (pairs_of new) place x ≡ pairs_of old
    pub valid : IsValidIn new b
    pub there : HasPlace new b place
    pub back : IsSome b.offset
    pub fits : FitsAt cmp x.0 new b
    pub shorter : old.len ≡ new.len + 1
    pub frees : FreesWithinStrain
    pub uncounted : new.kept ≡ old.kept
    pub leaf : TakesFromLeaf cmp a b
    pub inner : ReplacesIfInner cmp a b

  -- the pair x, which is the one whose key the query is equal to, was removed
  pub record RemovesBy {Q : Type 0} (cmp : K → K → Ordering) (compare : K → Q → Ordering) (query : Q) (x : K × V) : Type 0 where
    pub at : Address
    pub found_by : IsFoundBy compare query old at
    pub after : Address
    pub removed : IsRemoved cmp at x after
    pub pairs : pairs_of new ≡ remove (pairs_of old) (before compare query (pairs_of old))

  -- so it was if it was there; else nothing has changed
  pub record RemovesIfThereBy {Q : Type 0} (cmp : K → K → Ordering) (compare : K → Q → Ordering) (query : Q) : Type 0 where
    pub present : (x : K × V) → found compare query (pairs_of old) ≡ Some x → RemovesBy cmp compare query x
    pub absent : found compare query (pairs_of old) ≡ None → new ≡ old

  -- the pair x, which is the one with the key, was removed
  pub record RemovesByKey (cmp : K → K → Ordering) (k : K) (x : K × V) : Type 0 where
    pub at : Address
    pub found_at : IsFoundAt cmp k old at
    pub after : Address
    pub removed : IsRemoved cmp at x after
    pub pairs : pairs_of new ≡ remove (pairs_of old) (before cmp k (pairs_of old))
