-- What an update leaves of a tree: an action is called with the value that is there, and gives the value to be there.
-- `RunsAt` is an update at an address. Read `updated` first for one by key: the list that it leaves. `RunsByKey` is the
-- update, and `UpdatesByKey` says what it does to the nodes: with a value what an insertion does, without one what a
-- removal does, or nothing if the key is absent. `RunsAtGap` is the update of an absent key, at its gap.
use Rattle.std.specs.Prelude.{◌≡◌, ◌≢◌, ◌<◌, ◌^◌, ◌-◌, ℕ, List, length, Option, Some, None}
use Rattle.std.specs.declared.cmp.Ordering.{Ordering}
use Rattle.btree_item.specs.Pairs.{found, found_value, inserted}
use Rattle.btree_item.specs.Address.{Address}
use Rattle.btree_laws.specs.TreeState.{TreeState, IsBTree, item_of, nodes_needed, pairs_of}
use Rattle.btree_raw.specs.Claimed.{AreClaimed}
use Rattle.btree_raw.specs.Limit.{IsBelowLimit}
use Rattle.btree_ext.specs.Exchange.{IsValueExchanged}
use Rattle.btree_ext.specs.Insert.{InsertsByKey, IsGapFor, IsInserted}
use Rattle.btree_ext.specs.Remove.{IsRemoved, RemovesByKey, removed}

module _ {K V : Type 0} (cmp : K → K → Ordering) where
  -- the list with this value at the key, where an equal key stays; without the key if no value is given
  abbrev pub updated : K → Option V → List (K × V) → List (K × V)
  updated k None xs = removed cmp k xs
  updated k (Some w) xs = inserted cmp k w xs

  module _ (old new : TreeState K V) where
    -- the pair x at address a was updated: its value was exchanged for the given one, or it was removed
    abbrev pub UpdatesAt : Address → K × V → Option V → Type 0
    UpdatesAt a x None = (b : Address) × IsRemoved old new cmp a x b
    UpdatesAt a x (Some w) = IsValueExchanged old new a cmp x.1 w

    -- an action was called with the value at address a and gave the answer; the pair was updated to what it gave
    pub record RunsAt {T : Type 0} (post : V → Option V × T → Type 0) (a : Address) (answer : T) : Type 0 where
      pub item : K × V
      pub had : item_of old a ≡ Some item
      pub given : Option V
      pub ran : post item.1 (given, answer)
      pub updates : UpdatesAt a item given

    -- at the gap of an absent key the pair was inserted with the given value, or nothing has changed
    abbrev pub UpdatesGap : K → Address → Option V → Type 0
    UpdatesGap k a None = new ≡ old
    UpdatesGap k a (Some w) = (b : Address) × IsInserted cmp old new a b (k, w)

    -- an action was called without a value and gave the answer; the gap was updated to what it gave
    pub record RunsAtGap {T : Type 0} (post : Option V → Option V × T → Type 0) (k : K) (a : Address) (answer : T) : Type 0 where
      pub given : Option V
      pub ran : post None (given, answer)
      pub updates : UpdatesGap k a given

    -- the pair with the key was removed if it was there; else nothing has changed
    pub record RemovesIfThere (k : K) : Type 0 where
      pub present : (x : K × V) → found cmp k (pairs_of old) ≡ Some x → RemovesByKey old new cmp k x
      pub absent : found cmp k (pairs_of old) ≡ None → new ≡ old

    -- what an update by key to this value, or to none, does to the nodes
    abbrev pub UpdatesByKey : K → Option V → Type 0
    UpdatesByKey k None = RemovesIfThere k
    UpdatesByKey k (Some w) = InsertsByKey cmp k old new w

    -- an action was called with the value at the key, or without one, and gave the answer; the tree was updated to what
    -- it gave
    pub record RunsByKey {T : Type 0} (post : Option V → Option V × T → Type 0) (k : K) (answer : T) : Type 0 where
      pub given : Option V
      pub ran : post (found_value cmp k (pairs_of old)) (given, answer)
      pub pairs : pairs_of new ≡ updated k given (pairs_of old)
      pub by_key : UpdatesByKey k given

  -- the nodes that an insertion of the key at a gap of the base needs were claimed, and nothing else has changed
  pub record ClaimsNeeded (k : K) (base s : TreeState K V) (a : Address) (ids : List ℕ) : Type 0 where
    pub tree : IsBTree cmp base
    pub some : base.root ≢ None
    pub gap : IsGapFor cmp k base a
    pub room : base.len < 2 ^ 64 - 1
    pub below_limit : IsBelowLimit base
    pub claimed : AreClaimed base s ids
    pub enough : length ids ≡ nodes_needed base a.id
