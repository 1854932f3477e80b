-- What an insertion leaves of a tree, and what a refused one leaves.
-- Read `IsInserted` first, with its condition `IsGapFor`: an insertion of a pair at a gap, cited by `insert_at_gap`.
-- The number of new nodes is exactly `nodes_needed`, and they are within the strain (`IsWithinStrain`). Full nodes are
-- cut in the order of `OverflowSplit` (`PutsAndSplits`). `IsRefused` (`btree_raw`) is the other outcome. Then
-- `InsertsByKey`, cited by `insert` of tree and map: for an absent key, exactly the needed nodes were allocated, at
-- most one more than the tree had levels; for a key that is there, `ExchangesValueAt` (its value is replaced, and every
-- address stays). `IsRefusedAtGap` is its refusal: only if the length has reached its limit, or if the store may refuse
-- one of the needed nodes; `LeavesPairs` says of the list alone what it leaves. `IsGrantedIfAbsent` is the other side:
-- the store can hold the needed nodes beside those that it had, and the length is below its limit (`IsGranted`).
use Rattle.std.specs.Prelude.{◌≡◌, ℕ, ◌+◌, ◌<◌, ◌≤◌, List, length, Some, None, IsSome}
use Rattle.std.specs.FinMap as map
use Rattle.std.specs.List.{insert}
use Rattle.std.specs.declared.cmp.Ordering.{Ordering}
use Rattle.btree_store.specs.Content.{Content}
use Rattle.btree_item.specs.Pairs.{KeyFits, found}
use Rattle.btree_item.specs.Address.{Address}
use Rattle.btree_item.specs.declared.refused.Cause.{Cause}
use Rattle.btree_item.specs.declared.refused.Cause.TheVariants.{Store, Count}
use Rattle.btree_node.specs.declared.node.Node.{Node}
use Rattle.btree_view.specs.View.{NodeMap}
use Rattle.btree_laws.specs.Step.{Claims}
use Rattle.btree_laws.specs.TreeState.{TreeState, HasLevels, HasStrain, IsBTree, IsLeafAddressIn, IsPlaceIn, item_of, node_map, nodes_needed, pairs_of, refused_once}
use Rattle.btree_raw.specs.Claimed.{CanHoldMore, EMPTY}
use Rattle.btree_raw.specs.Insertion.{IsRefused}
use Rattle.btree_raw.specs.Limit.{IsBelowLimit}
use Rattle.btree_raw.specs.OverflowSplit.{OverflowSplit}
use Rattle.btree_raw.specs.Steps.{AddsItem}
use Rattle.btree_find.specs.Answers.{IsFoundAt, IsGapAt}
use Rattle.btree_ext.specs.Exchange.{IsValueExchanged}

-- the nodes allocated and the strain afterwards are together at most the strain before plus one
pub record IsWithinStrain {K V : Type 0} (old new : TreeState K V) : Type 0 where
  pub before : ℕ
  pub after : ℕ
  pub strain_before : HasStrain old before
  pub strain_after : HasStrain new after
  pub within_strain : map.len new.nodes + after ≤ map.len old.nodes + (before + 1)

module _ {K V : Type 0} (old new : TreeState K V) where
  -- with the cause `Store` one more refusal is counted, and the list is shorter than the limit; with the cause `Count` it
  -- has reached the limit
  abbrev pub CountsRefusal : Cause → Type 0
  CountsRefusal Store = (new.kept ≡ refused_once old.kept) × (length (pairs_of old) < old.kept.limit)
  CountsRefusal Count = (new.kept ≡ old.kept) × (old.kept.limit ≤ length (pairs_of old))

  -- what a refused insertion leaves, said of the list alone: every pair stays
  pub record LeavesPairs (cause : Cause) : Type 0 where
    pub pairs : pairs_of new ≡ pairs_of old
    pub len : new.len ≡ old.len
    pub counts : CountsRefusal cause

-- numbers for new nodes were claimed, the pair was put at address a, in a leaf, and from there nodes were cut in the
-- order of `OverflowSplit`
pub record PutsAndSplits {K V : Type 0} (old new : TreeState K V) (a : Address) (x : K × V) (root : ℕ) : Type 0 where
  pub spare : List ℕ
  pub claimed : NodeMap (K × V)
  pub claims : Claims (node_map old) claimed spare
  pub index : ℕ
  pub offset : a.offset ≡ Some index
  pub put : NodeMap (K × V)
  pub adds : AddsItem claimed put a.id index x None
  pub splits : OverflowSplit root (node_map new) new.root put a.id spare

module _ {K V : Type 0} (cmp : K → K → Ordering) where
  -- a back address in a leaf, or nowhere in the empty tree, with a place that the key fits
  pub record IsGapFor (k : K) (s : TreeState K V) (a : Address) : Type 0 where
    pub place : ℕ
    pub at : IsPlaceIn s a place
    pub in_leaf : IsLeafAddressIn s a
    pub back : IsSome a.offset
    pub fits : KeyFits cmp k place (pairs_of s)

  -- the pair was inserted at the place of address a, and is at address b; exactly the nodes that were needed were
  -- allocated
  pub record IsInserted (old new : TreeState K V) (a b : Address) (x : K × V) : Type 0 where
    pub below_limit : IsBelowLimit old
    pub tree : IsBTree cmp new
    pub pairs : (place : ℕ) → IsPlaceIn old a place → (pairs_of new ≡ insert (pairs_of old) place x) × IsPlaceIn new b place
    pub item : item_of new b ≡ Some x
    pub longer : new.len ≡ old.len + 1
    pub nodes : map.len new.nodes ≡ map.len old.nodes + nodes_needed old a.id
    pub split : (root : ℕ) → old.root ≡ Some root → PutsAndSplits old new a x root
    pub strain : IsWithinStrain old new
    pub uncounted : new.kept ≡ old.kept

-- the store can hold the nodes that an insertion at a node needs, and the length is below its limit
abbrev pub IsGranted : {K V : Type 0} → (Content (Node K V) → Type 0) → (id : ℕ) → TreeState K V → Type 0
IsGranted CanHold id s = CanHoldMore EMPTY CanHold s.nodes (nodes_needed s id) × IsBelowLimit s

module _ {K V : Type 0} (cmp : K → K → Ordering) (k : K) (old : TreeState K V) (CanHold : Content (Node K V) → Type 0) where
  -- an insertion at the gap of the key can be granted
  pub record IsGrantedAtGap : Type 0 where
    pub gap : Address
    pub is_gap : IsGapAt cmp k old gap
    pub granted : IsGranted CanHold gap.id old

  -- so it is for a key that is not there
  abbrev pub IsGrantedIfAbsent : Type 0
  IsGrantedIfAbsent = found cmp k (pairs_of old) ≡ None → IsGrantedAtGap

module _ {K V : Type 0} (cmp : K → K → Ordering) (k : K) (old new : TreeState K V) where
  -- the item with the key has another value, and nothing else has changed: the stored key stays, and so does every
  -- address
  pub record ExchangesValueAt (was is : V) : Type 0 where
    pub at : Address
    pub found_at : IsFoundAt cmp k old at
    pub exchanged : IsValueExchanged old new at cmp was is

  -- the pair was put at the gap of the key, and from there nodes were cut
  abbrev pub SplitsAtGap : (value : V) (root : ℕ) → Type 0
  SplitsAtGap value root = (a : Address) × IsGapAt cmp k old a × PutsAndSplits old new a (k, value) root

  -- which nodes an insertion of a value by key used: for an absent key those that were needed at its gap, at most one
  -- more than there were levels, and how nodes were split; for a present key none, and every address stays
  pub record InsertsByKey (value : V) : Type 0 where
    pub below_limit : found cmp k (pairs_of old) ≡ None → IsBelowLimit old
    pub absent : found cmp k (pairs_of old) ≡ None → (a : Address) × IsGapAt cmp k old a × (map.len new.nodes ≡ map.len old.nodes + nodes_needed old a.id)
    pub split : found cmp k (pairs_of old) ≡ None → (root : ℕ) → old.root ≡ Some root → SplitsAtGap value root
    pub few : (levels : ℕ) → HasLevels old levels → map.len new.nodes ≤ map.len old.nodes + (levels + 1)
    pub within_strain : found cmp k (pairs_of old) ≡ None → IsWithinStrain old new
    pub present : IsSome (found cmp k (pairs_of old)) → (was : V) × ExchangesValueAt was value

  -- an insertion by key was refused at the gap of the key
  pub record IsRefusedAtGap (MayRefuse : Content (Node K V) → Type 0) (cause : Cause) : Type 0 where
    pub gap : Address
    pub is_gap : IsGapAt cmp k old gap
    pub refused : IsRefused MayRefuse gap.id old new cause
    pub leaves : LeavesPairs old new cause
