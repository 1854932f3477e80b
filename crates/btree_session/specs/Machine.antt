-- A session as a machine: the replies that it may give to a command, and its state after each.
-- Only a refusal by the store changes what is kept, which is its count of refusals and the greatest number of pairs. A refusal
-- with the cause `Count` changes nothing at all.
-- Read `MachineStep` first (the reply and the state, over a list of pairs), then `Handles` (the nodes). `IsStep` is
-- both, between the states that the session stands for (`StandsFor`), with a well formed tree after it. `Runs`, which
-- `run` cites, is a list of commands with a reply to each, appended to a vector.
use Rattle.std.specs.Prelude.{◌≡◌, ℕ, suc, List, [], length, insert, remove, slice_get, Option, Some, None, Vec}
use Rattle.std.specs.FinMap as finite
use Rattle.std.specs.Ordering.{nat_cmp}
use Rattle.btree_item.specs.Pairs.{KeyFits, found, found_value, before, with_value}
use Rattle.btree_item.specs.Address.{Address}
use Rattle.btree_item.specs.declared.refused.Cause.{Cause}
use Rattle.btree_item.specs.declared.refused.Cause.TheVariants.{Store, Count}
use Rattle.btree_store.specs.Content.{Content}
use Rattle.btree_node.specs.declared.node.Node.{Node}
use Rattle.btree_laws.specs.TreeState.{Kept, TreeState, IsBTree, IsOccupiedIn, pairs_of, refused_once, rootless}
use Rattle.btree_find.specs.Answers.{IsFoundAt, IsGapAt}
use Rattle.btree_find.specs.Navigation.{HasPlace, IsNormalized}
use Rattle.btree_ext.specs.Insert.{IsRefusedAtGap, InsertsByKey}
use Rattle.btree_ext.specs.InsertAt.{InsertsAt, IsRefusedAt}
use Rattle.btree_ext.specs.Remove.{IsRemoved, RemovesByKey}
use Rattle.btree_session.specs.declared.command.Command.{Command}
use Rattle.btree_session.specs.declared.command.Command.TheVariants.{Insert, Get, Remove, Clear, Seek, Next, Prev, Put, Take}
use Rattle.btree_session.specs.declared.command.Reply.{Reply}
use Rattle.btree_session.specs.declared.command.Reply.TheVariants.{Nothing, Value, Pair, Done, Found, Gap, NoPlace, Unfit, Refused}
use Rattle.btree_session.specs.Held.{Held}
use Rattle.btree_session.specs.Run.{RunsBy}

-- the state of a session: its pairs by ascending keys, the place that it holds, if any, and what its map keeps
pub record SessionState : Type 0 where
  pub pairs : List (ℕ × ℕ)
  pub place : Option ℕ
  pub kept : Kept

-- the state with these pairs, in which no place is held
abbrev pub let_go : SessionState → List (ℕ × ℕ) → SessionState
let_go old pairs = record { pairs = pairs; place = None; kept = old.kept }

-- the state with these pairs, in which this place is held
abbrev pub holding : SessionState → List (ℕ × ℕ) → (place : ℕ) → SessionState
holding old pairs place = record { pairs = pairs; place = Some place; kept = old.kept }

-- the place that is held becomes this one, where this pair is
abbrev pub MovesTo : (old : SessionState) → (place : ℕ) → ℕ × ℕ → (new : SessionState) → Type 0
MovesTo old place pair new = (slice_get old.pairs place ≡ Some pair) × (new ≡ holding old old.pairs place)

-- the state after a refusal: unchanged except for the store's count of its own refusals
abbrev pub after_refusal : SessionState → Cause → SessionState
after_refusal old Store = record old { kept = refused_once old.kept }
after_refusal old Count = old

-- a new pair can be refused for a cause: by the count at the greatest number of pairs alone; the store may always refuse
abbrev pub IsRefusable : SessionState → Cause → Type 0
IsRefusable old Store = Unit {0}
IsRefusable old Count = length old.pairs ≡ old.kept.limit

-- the reply with a value, if there is one
abbrev pub value_reply : Option ℕ → Reply
value_reply None = Nothing
value_reply (Some value) = Value value

-- From `old`, the machine may give this reply to the command and go to `new`.
abbrev pub MachineStep : SessionState → Command → Reply → SessionState → Type 0
-- a look-up changes nothing
MachineStep old (Get key) Nothing new = (found nat_cmp key old.pairs ≡ None) × (new ≡ old)
MachineStep old (Get key) (Value value) new = (found_value nat_cmp key old.pairs ≡ Some value) × (new ≡ old)
-- a key that is there stays, and its value is replaced; the place is let go
MachineStep old (Insert key value) (Value was) new = (found_value nat_cmp key old.pairs ≡ Some was) × (new ≡ let_go old (with_value nat_cmp key value old.pairs))
-- a key that is not there is inserted at its place with its value, and the place that was held is let go; or both are
-- refused, and it stays held
MachineStep old (Insert key value) Nothing new = (found nat_cmp key old.pairs ≡ None) × (new ≡ let_go old (insert old.pairs (before nat_cmp key old.pairs) (key, value)))
MachineStep old (Insert key value) (Refused cause) new = (found nat_cmp key old.pairs ≡ None) × IsRefusable old cause × (new ≡ after_refusal old cause)
-- a key that is there is removed with its value; the place is let go, also if the key is not there
MachineStep old (Remove key) (Value value) new = (found_value nat_cmp key old.pairs ≡ Some value) × (new ≡ let_go old (remove old.pairs (before nat_cmp key old.pairs)))
MachineStep old (Remove key) Nothing new = (found nat_cmp key old.pairs ≡ None) × (new ≡ let_go old old.pairs)
-- all pairs are removed, and the place is let go
MachineStep old Clear Done new = new ≡ let_go old []
-- the place of a key that is there, or of the gap where it would be, is held
MachineStep old (Seek key) (Found value) new = (found_value nat_cmp key old.pairs ≡ Some value) × (new ≡ holding old old.pairs (before nat_cmp key old.pairs))
MachineStep old (Seek key) Gap new = (found nat_cmp key old.pairs ≡ None) × (new ≡ holding old old.pairs (before nat_cmp key old.pairs))
-- the next place is held, if a pair is there
MachineStep old Next (Pair key value) new = (p : ℕ) × (old.place ≡ Some p) × MovesTo old (suc p) (key, value) new
MachineStep old Next Nothing new = (p : ℕ) × (old.place ≡ Some p) × (slice_get old.pairs (suc p) ≡ None) × (new ≡ old)
MachineStep old Next NoPlace new = (old.place ≡ None) × (new ≡ old)
-- the previous place is held, if there is one
MachineStep old Prev (Pair key value) new = (p : ℕ) × (old.place ≡ Some (suc p)) × MovesTo old p (key, value) new
MachineStep old Prev Nothing new = (old.place ≡ Some 0) × (new ≡ old)
MachineStep old Prev NoPlace new = (old.place ≡ None) × (new ≡ old)
-- a pair whose key fits at the place is inserted there, and the place stays held; or it is refused
MachineStep old (Put key value) Done new = (p : ℕ) × (old.place ≡ Some p) × KeyFits nat_cmp key p old.pairs × (new ≡ holding old (insert old.pairs p (key, value)) p)
MachineStep old (Put key value) (Refused cause) new = (p : ℕ) × (old.place ≡ Some p) × KeyFits nat_cmp key p old.pairs × IsRefusable old cause × (new ≡ after_refusal old cause)
MachineStep old (Put key value) Unfit new = (p : ℕ) × (old.place ≡ Some p) × (KeyFits nat_cmp key p old.pairs → ⊥) × (new ≡ old)
MachineStep old (Put key value) NoPlace new = (old.place ≡ None) × (new ≡ old)
-- the pair at the place is removed, if one is there, and the place stays held
MachineStep old Take (Pair key value) new = (p : ℕ) × (old.place ≡ Some p) × (slice_get old.pairs p ≡ Some (key, value)) × (new ≡ holding old (remove old.pairs p) p)
MachineStep old Take Nothing new = (p : ℕ) × (old.place ≡ Some p) × (slice_get old.pairs p ≡ None) × (new ≡ old)
MachineStep old Take NoPlace new = (old.place ≡ None) × (new ≡ old)
-- no other reply is given
MachineStep old command reply new = ⊥

-- the place of the address that is held in a map, if one is held
abbrev pub IsHeldPlace : TreeState ℕ ℕ → Option Address → Option ℕ → Type 0
IsHeldPlace map None place = place ≡ None
IsHeldPlace map (Some a) place = (p : ℕ) × (place ≡ Some p) × HasPlace map a p

-- the state of the machine that a session stands for; there is only one, since an address has only one place
pub record StandsFor (session : Held ℕ ℕ) (state : SessionState) : Type 0 where
  pub pairs : state.pairs ≡ pairs_of session.map
  pub place : IsHeldPlace session.map session.held state.place
  pub kept : state.kept ≡ session.map.kept

-- the address of an item is held, in an unchanged map
abbrev pub HoldsItem : (old new : Held ℕ ℕ) → Type 0
HoldsItem old new = (a : Address) × (new.held ≡ Some a) × IsOccupiedIn old.map a × (new.map ≡ old.map)

-- over stores that may refuse a node in these contents
module _ (MayRefuse : Content (Node ℕ ℕ) → Type 0) where
  -- What a command with this reply does to the nodes and to the address that is held: a look-up changes nothing; an
  -- insertion uses the nodes that it needs; a refused one changes nothing, and occurs only if the store may refuse one
  -- of the needed nodes, or at the greatest count; a removal frees nodes. `seek` holds the address that `address_of`
  -- returns, `next` and `prev` that of an item. An edit at the held address is one of the map at that address. Where
  -- neither pairs nor place change, nothing changes.
  abbrev pub Handles : (old : Held ℕ ℕ) → Command → Reply → (new : Held ℕ ℕ) → Type 0
  Handles old (Get key) reply new = new ≡ old
  Handles old (Insert key value) Nothing new = InsertsByKey nat_cmp key old.map new.map value
  Handles old (Insert key value) (Value was) new = InsertsByKey nat_cmp key old.map new.map value
  Handles old (Insert key value) (Refused cause) new = IsRefusedAtGap nat_cmp key old.map new.map MayRefuse cause × (new.held ≡ old.held)
  Handles old (Remove key) (Value value) new = (stored : ℕ) × RemovesByKey old.map new.map nat_cmp key (stored, value)
  Handles old (Remove key) Nothing new = new.map ≡ old.map
  Handles old Clear Done new = new.map ≡ rootless finite.empty old.map.kept
  Handles old (Seek key) (Found value) new = (a : Address) × IsFoundAt nat_cmp key old.map a × (new.held ≡ Some a) × (new.map ≡ old.map)
  Handles old (Seek key) Gap new = (a : Address) × IsGapAt nat_cmp key old.map a × (new.held ≡ Some a) × (new.map ≡ old.map)
  Handles old Next (Pair key value) new = HoldsItem old new
  Handles old Prev (Pair key value) new = HoldsItem old new
  Handles old (Put key value) Done new =
      (a : Address) × (b : Address) × (old.held ≡ Some a) × (new.held ≡ Some b) × InsertsAt old.map new.map a nat_cmp b (key, value)
  Handles old (Put key value) (Refused cause) new = (a : Address) × (old.held ≡ Some a) × IsRefusedAt old.map new.map a MayRefuse cause × (new.held ≡ old.held)
  Handles old Take (Pair key value) new =
      (a : Address) × (at : Address) × (b : Address) × (old.held ≡ Some a) × IsNormalized old.map a (Some at)
      × IsRemoved old.map new.map nat_cmp at (key, value) b × (new.held ≡ Some b)
  Handles old command Nothing new = new ≡ old
  Handles old command NoPlace new = new ≡ old
  Handles old command Unfit new = new ≡ old
  Handles old command reply new = new.map ≡ old.map

  -- From `old`, the session may give this reply to the command and go to `new`: a step of the machine between the
  -- states that they stand for, to a well formed tree.
  pub record IsStep (old : Held ℕ ℕ) (command : Command) (reply : Reply) (new : Held ℕ ℕ) : Type 0 where
    pub before : SessionState
    pub after : SessionState
    pub stands_before : StandsFor old before
    pub stands_after : StandsFor new after
    pub step : MachineStep before command reply after
    pub nodes : Handles old command reply new
    pub tree : IsBTree nat_cmp new.map

  -- The commands were run one after another, and their replies appended to those that were there.
  abbrev pub Runs : {Z : Type 0} → (old : Held ℕ ℕ) → List Command → (new : Held ℕ ℕ) → (replies more : Vec Reply Z) → Type 0
  Runs = RunsBy IsStep
