-- One step of a visit of a tree's back addresses forwards, or of its front addresses backwards.
-- `HasAddresses` has the laws of the two lists: each address once, in the order of the places, as many as pairs and nodes.
use Rattle.std.specs.Prelude.{◌≡◌, ◌≢◌, ℕ, suc, slice_get, Option, Some, None, IfSome, IsSome}
use Rattle.std.specs.FinMap as map
use Rattle.btree_item.specs.Address.{Address}
use Rattle.btree_laws.specs.AddressLaws.{IsFront}
use Rattle.btree_laws.specs.Addresses.{first_leaf, last_item}
use Rattle.btree_laws.specs.Focus.Positions.{address_at}
use Rattle.btree_laws.specs.Place.{IsEnd}
use Rattle.btree_laws.specs.TreeAddresses.{backs_of, fronts_of}
use Rattle.btree_laws.specs.TreeState.{TreeState, IsValidIn, node_map}
use Rattle.btree_laws.specs.Visits.{prior}

module _ {K V : Type 0} (s : TreeState K V) (a : Address) (found : Option Address) where
  -- the next one in the list of back addresses; from -1, the first one under the node
  pub record IsNextBack : Type 0 where
    pub listed : IsSome a.offset → s.root ≢ None → (i : ℕ) × (slice_get (backs_of s) i ≡ Some a)
    pub next : (i : ℕ) → slice_get (backs_of s) i ≡ Some a → found ≡ slice_get (backs_of s) (suc i)
    pub before : a.offset ≡ None → found ≡ Some (address_at (first_leaf (node_map s) (map.len s.nodes) a.id) 0)
    pub empty : s.root ≡ None → found ≡ None
    pub valid : IfSome found (IsValidIn s)
    pub back : IfSome found (λ b. IsSome b.offset)

  -- the one before in the list of front addresses; from past the end of a node, the last one under the node
  pub record IsPreviousFront : Type 0 where
    pub listed : IsFront (node_map s) (node_map s a.id) a.offset → (i : ℕ) × (slice_get (fronts_of s) i ≡ Some a)
    pub previous : (i : ℕ) → slice_get (fronts_of s) i ≡ Some a → found ≡ prior (fronts_of s) i
    pub end : (o : ℕ) → a.offset ≡ Some o → IsEnd (node_map s) (node_map s a.id) o
        → found ≡ Some (last_item (node_map s) (map.len s.nodes) a.id)
    pub empty : s.root ≡ None → found ≡ None
    pub valid : IfSome found (IsValidIn s)
    pub front : IfSome found (λ b. IsFront (node_map s) (node_map s b.id) b.offset)
