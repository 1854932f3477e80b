-- A removal of the pair at a place of the list, of a key of which only the value is returned, and of a range.
use Rattle.std.specs.Prelude.{◌≡◌, ◌≤◌, ℕ, List, not}
use Rattle.std.specs.BTreeMap.Range.{range_contains}
use Rattle.std.specs.FinMap as map
use Rattle.std.specs.List.{filter, remove}
use Rattle.std.specs.declared.cmp.Ordering.{Ordering}
use Rattle.std.specs.declared.ops.Bound.{Bound}
use Rattle.btree_item.specs.Address.{Address}
use Rattle.btree_laws.specs.TreeState.{TreeState, pairs_of}
use Rattle.btree_find.specs.Navigation.{IsItemAddress}
use Rattle.btree_ext.specs.Remove.{IsRemoved, RemovesBy, RemovesByKey}

-- there are no more nodes than before
abbrev pub AddsNoNode : {K V : Type 0} → (old new : TreeState K V) → Type 0
AddsNoNode old new = map.len new.nodes ≤ map.len old.nodes

-- the pair x at a place of the list was removed, at its address
pub record RemovesPlace {K V : Type 0} (old new : TreeState K V) (cmp : K → K → Ordering) (place : ℕ) (x : K × V) : Type 0 where
  pub at : Address
  pub here : IsItemAddress old place at
  pub after : Address
  pub removed : IsRemoved old new cmp at x after
  pub pairs : pairs_of new ≡ remove (pairs_of old) place

-- the pair of the stored key that a query is equal to, and this value, was removed
abbrev pub RemovesValueBy : {K Q V : Type 0} → (K → K → Ordering) → (K → Q → Ordering) → (query : Q) → (old new : TreeState K V) → (value : V) → Type 0
RemovesValueBy {K} cmp compare query old new value = (stored : K) × RemovesBy old new cmp compare query (stored, value)

-- the pair of a stored key equal to k, and this value, was removed
abbrev pub RemovesValueOf : {K V : Type 0} → (K → K → Ordering) → (k : K) → (old new : TreeState K V) → (value : V) → Type 0
RemovesValueOf {K} cmp k old new value = (stored : K) × RemovesByKey old new cmp k (stored, value)

-- the pairs of a list whose keys are not between two bounds
abbrev pub pairs_outside : {K V : Type 0} → (K → K → Ordering) → (start end : Bound K) → List (K × V) → List (K × V)
pairs_outside cmp start end pairs = filter (λ x. not (range_contains cmp start end x.0)) pairs
