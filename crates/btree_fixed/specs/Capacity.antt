-- When a tree over a table of nodes refuses an insertion. The capacity is how many nodes the table can hold.
-- Read `ExceedsCapacity` first: the nodes that are held and those that an insertion at a leaf needs are more than that.
-- By `RefusesExactly` an insertion by key is refused exactly then; `RefusesExactlyAt` says so of one at an address, and
-- `RefusesExactlyAtPlace` of one at a place, as a cursor's. `TakesFew` is what follows for a map of few pairs. The laws of
-- these words are in `CapacityLaws.antt`; their premises are clauses of the calls. `RefusesElementExactly` and
-- `TakesFewElements` are the same words for a set; their laws are in `SetLaws.antt`.
use Rattle.std.specs.Prelude.{◌≡◌, ◌<◌, ◌≤◌, ◌+◌, ◌*◌, ◌↔◌, ℕ, None, Result, IsErr, IsOk, IsSome, length}
use Rattle.std.specs.FinMap as map
use Rattle.std.specs.declared.cmp.Ordering.{Ordering}
use Rattle.btree_store.specs.Content.{Content}
use Rattle.btree_item.specs.Pairs.{found}
use Rattle.btree_item.specs.Address.{Address}
use Rattle.btree_laws.specs.TreeState.{TreeState, nodes_needed, pairs_of}
use Rattle.btree_raw.specs.Limit.{IsBelowLimit}
use Rattle.btree_find.specs.Answers.{IsGapAt}
use Rattle.btree_find.specs.Ends.{IsLeafBackAt}
use Rattle.btree_find.specs.Navigation.{IsLeafAddressFor}
use Rattle.btree_map.specs.Written.{IsInsertedWith}
use Rattle.btree_set.specs.Elements.{SetState, stored}

module _ {T : Type 0} (capacity : ℕ) (content : Content T) where
  -- the table is full
  abbrev pub HoldsAll : Type 0
  HoldsAll = map.len content ≡ capacity

  -- there are no more values than the table can hold
  abbrev pub HoldsAtMost : Type 0
  HoldsAtMost = map.len content ≤ capacity

-- the nodes that are held and those that an insertion at this leaf needs are more than the table can hold
abbrev pub ExceedsCapacity : {K V : Type 0} → TreeState K V → (capacity leaf : ℕ) → Type 0
ExceedsCapacity s capacity leaf = capacity < map.len s.nodes + nodes_needed s leaf

module _ {X E : Type 0} (capacity : ℕ) (result : Result X E) where
  -- an insertion beside so many is taken if there are at most three then for each node that the table can hold, and no
  -- more than there may be
  abbrev pub TakesBeside : (len limit : ℕ) → Type 0
  TakesBeside len limit = len + 1 ≤ 3 * capacity → len < limit → IsOk result

-- an insertion that leaves a map of few pairs is taken
abbrev pub TakesFew : {K V X E : Type 0} → TreeState K V → (capacity : ℕ) → Result X E → Type 0
TakesFew s capacity result = TakesBeside capacity result (length (pairs_of s)) s.kept.limit

module _ {K V X E : Type 0} (s : TreeState K V) (capacity : ℕ) (result : Result X E) where
  -- the result is an error exactly if the nodes for the gap of the key do not fit
  pub record FailsAtGap (cmp : K → K → Ordering) (k : K) : Type 0 where
    pub gap : Address
    pub is_gap : IsGapAt cmp k s gap
    pub exactly : IsErr result ↔ ExceedsCapacity s capacity gap.id

  -- the same for the leaf address of an address
  pub record FailsAtLeaf (a : Address) : Type 0 where
    pub leaf : Address
    pub leaf_for : IsLeafAddressFor s a leaf
    pub exactly : IsErr result ↔ ExceedsCapacity s capacity leaf.id

  -- the same for the back address in a leaf at a place
  pub record FailsAtPlace (place : ℕ) : Type 0 where
    pub leaf : Address
    pub is_leaf : IsLeafBackAt s place leaf
    pub exactly : IsErr result ↔ ExceedsCapacity s capacity leaf.id

-- below the limit, an insertion or an update of a key that is not there is refused exactly if the nodes that it needs at
-- its gap do not fit
abbrev pub RefusesExactly : {K V X E : Type 0} → (K → K → Ordering) → K → TreeState K V → (capacity : ℕ) → Result X E → Type 0
RefusesExactly cmp k s capacity result = found cmp k (pairs_of s) ≡ None → IsBelowLimit s → FailsAtGap s capacity result cmp k

module _ {K V X E : Type 0} (s : TreeState K V) where
  -- so is an insertion at an address, by its leaf address
  abbrev pub RefusesExactlyAt : Address → (capacity : ℕ) → Result X E → Type 0
  RefusesExactlyAt a capacity result = IsBelowLimit s → FailsAtLeaf s capacity result a

  -- and one at a place, by the back address in a leaf there
  abbrev pub RefusesExactlyAtPlace : (place capacity : ℕ) → Result X E → Type 0
  RefusesExactlyAtPlace place capacity result = IsBelowLimit s → FailsAtPlace s capacity result place

module _ {K V : Type 0} where
  -- an insertion of the key needs no node: the leaf at its gap has room
  abbrev pub NeedsNoNode : (K → K → Ordering) → K → TreeState K V → Type 0
  NeedsNoNode cmp k s = (gap : Address) → IsGapAt cmp k s gap → nodes_needed s gap.id ≡ 0

  -- the same of an insertion at an address
  abbrev pub NeedsNoNodeAt : TreeState K V → Address → Type 0
  NeedsNoNodeAt s a = (leaf : Address) → IsLeafAddressFor s a leaf → nodes_needed s leaf.id ≡ 0

-- an insertion by way of an entry: a key that was not there was inserted with a value, and another may have been written
-- in its place since
abbrev pub InsertsByEntry : {K V : Type 0} → (K → K → Ordering) → K → (old new : TreeState K V) → Type 0
InsertsByEntry {K} {V} cmp k old new = found cmp k (pairs_of old) ≡ None → (given : V) × ((w : V) × IsInsertedWith cmp k old new given w)

-- if the key was there, every pair is as it was
abbrev pub KeepsPresent : {K V : Type 0} → (K → K → Ordering) → K → (old new : TreeState K V) → Type 0
KeepsPresent cmp k old new = IsSome (found cmp k (pairs_of old)) → pairs_of new ≡ pairs_of old

-- below its limit, a set refuses an element that is not there exactly if the nodes for its gap do not fit
abbrev pub RefusesElementExactly : {T X E : Type 0} → (T → T → Ordering) → T → SetState T → (capacity : ℕ) → Result X E → Type 0
RefusesElementExactly cmp x s capacity result =
    stored cmp x s.elements ≡ None → length s.elements < s.kept.limit → FailsAtGap s.tree capacity result cmp x

-- an insertion that leaves a set of few elements is taken
abbrev pub TakesFewElements : {T X E : Type 0} → SetState T → (capacity : ℕ) → Result X E → Type 0
TakesFewElements s capacity result = TakesBeside capacity result (length s.elements) s.kept.limit
