-- An editing cursor as a machine: the replies that it may give to a step, and its state after each.
-- Read `CursorMove` first (the reply and the state, over the list of the pairs that were passed and that of those that
-- are left), then `Edits` (the map's nodes). `IsCursorStep` is both, and `RunsCursor`, which `run_cursor` cites, a list of
-- such steps with their replies appended to a vector. As in a session, only a refusal by the store changes what is
-- kept.
use Rattle.std.specs.Prelude.{◌≡◌, ℕ, ◌+◌, List, [], ◌∷◌, ◌++◌, length, take, drop, Vec}
use Rattle.std.specs.Ordering.{nat_cmp}
use Rattle.std.specs.declared.cmp.Ord as ord
use Rattle.std.specs.declared.cmp.PartialEq as eq
use Rattle.std.specs.declared.cmp.PartialOrd as partial
use Rattle.btree_item.specs.Address.{Address}
use Rattle.btree_item.specs.declared.refused.Cause.{Cause}
use Rattle.btree_item.specs.declared.refused.Cause.TheVariants.{Store, Count}
use Rattle.btree_store.specs.Content.{Content}
use Rattle.btree_node.specs.declared.node.Node.{Node}
use Rattle.btree_node.specs.declared.node_stores.Nodes as nodes
use Rattle.btree_node.specs.declared.node_stores.NodesMut as nodes_mut
use Rattle.btree_laws.specs.TreeState.{Kept, TreeState, pairs_of, refused_once}
use Rattle.btree_find.specs.Navigation.{HasPlace}
use Rattle.btree_ext.specs.InsertAt.{InsertsAt, IsRefusedAt}
use Rattle.btree_ext.specs.Remove.{IsRemoved}
use Rattle.btree_map.specs.Cursor.{WritesPlace}
use Rattle.btree_map.specs.Editing.{FitsBetween, entry_front}
use Rattle.btree_map.specs.declared.cursor.editing.EntriesMut.{EntriesMut}
use Rattle.btree_session.specs.declared.command.Reply.{Reply}
use Rattle.btree_session.specs.declared.command.Reply.TheVariants.{Nothing, Pair, Done, Unfit, Refused}
use Rattle.btree_session.specs.declared.cursor.CursorStep.{CursorStep}
use Rattle.btree_session.specs.declared.cursor.CursorStep.TheVariants.{Peek, Next, Insert, Remove}
use Rattle.btree_session.specs.Run.{RunsBy}

-- the state of a cursor: the pairs that were passed, those that are left, and what the map keeps
pub record CursorState : Type 0 where
  pub passed : List (ℕ × ℕ)
  pub left : List (ℕ × ℕ)
  pub kept : Kept

-- the state after a refusal: unchanged except for the store's count of its own refusals
abbrev pub after_refusal : CursorState → Cause → CursorState
after_refusal old Store = record old { kept = refused_once old.kept }
after_refusal old Count = old

-- a pair can be refused for a cause; the store may always refuse
abbrev pub IsRefusable : CursorState → Cause → Type 0
IsRefusable old Store = Unit {0}
IsRefusable old Count = length old.passed + length old.left ≡ old.kept.limit

-- From `old`, the machine may give this reply to the step and go to `new`.
abbrev pub CursorMove : CursorState → CursorStep → Reply → CursorState → Type 0
-- the first pair that is left is shown
CursorMove old Peek (Pair key value) new = (rest : List (ℕ × ℕ)) × (old.left ≡ (key, value) ∷ rest) × (new ≡ old)
CursorMove old Peek Nothing new = (old.left ≡ []) × (new ≡ old)
-- it goes to the end of those passed
CursorMove old Next (Pair key value) new =
    (rest : List (ℕ × ℕ)) × (old.left ≡ (key, value) ∷ rest) × (new ≡ record old { passed = old.passed ++ (key, value) ∷ []; left = rest })
CursorMove old Next Nothing new = (old.left ≡ []) × (new ≡ old)
-- a pair whose key lies between the two lists is put at the end of those passed, or is refused
CursorMove old (Insert key value) Done new =
    FitsBetween nat_cmp key old.passed old.left × (new ≡ record old { passed = old.passed ++ (key, value) ∷ [] })
CursorMove old (Insert key value) (Refused cause) new =
    FitsBetween nat_cmp key old.passed old.left × IsRefusable old cause × (new ≡ after_refusal old cause)
CursorMove old (Insert key value) Unfit new = (FitsBetween nat_cmp key old.passed old.left → ⊥) × (new ≡ old)
-- the first pair that is left is removed
CursorMove old Remove (Pair key value) new = (rest : List (ℕ × ℕ)) × (old.left ≡ (key, value) ∷ rest) × (new ≡ record old { left = rest })
CursorMove old Remove Nothing new = (old.left ≡ []) × (new ≡ old)
-- no other reply is given
CursorMove old step reply new = ⊥

-- a map, and how many of its pairs a cursor has passed
pub record Spot : Type 0 where
  pub map : TreeState ℕ ℕ
  pub front : ℕ

module _ {C O : Type 0} {g : ord.Ghosts ℕ} {g' : eq.Ghosts ℕ} {g'' : partial.Ghosts ℕ} {s : nodes_mut.Ghosts C ℕ ℕ O} {s' : nodes.Ghosts C ℕ ℕ} where
  -- where a cursor is
  abbrev pub spot_of : EntriesMut ℕ ℕ C O g g' g'' s s' → Spot
  spot_of c = record { map = c.map.now; front = entry_front c }

-- the state of the machine that the cursor stands for there
abbrev pub state_at : Spot → CursorState
state_at spot = record {
  passed = take spot.front (pairs_of spot.map);
  left = drop spot.front (pairs_of spot.map);
  kept = spot.map.kept;
}

-- over stores that may refuse a node in these contents
module _ (MayRefuse : Content (Node ℕ ℕ) → Type 0) where
  -- What a step with this reply does to the map: an insertion and a removal are edits at an address, a refusal leaves all
  -- but its count as it was, a pair that is passed has its own value written to it again, and nothing else changes
  -- anything.
  abbrev pub Edits : (old : Spot) → CursorStep → Reply → (new : Spot) → Type 0
  Edits old Next (Pair key value) new = (a : Address) × WritesPlace nat_cmp old.map new.map a old.front key value value
  Edits old (Insert key value) Done new = (gap : Address) × (at : Address) × InsertsAt old.map new.map gap nat_cmp at (key, value)
  Edits old (Insert key value) (Refused cause) new = (gap : Address) × HasPlace old.map gap old.front × IsRefusedAt old.map new.map gap MayRefuse cause
  Edits old Remove (Pair key value) new = (at : Address) × (after : Address) × IsRemoved old.map new.map nat_cmp at (key, value) after
  Edits old step reply new = new ≡ old

  -- From `old`, the cursor may give this reply to the step and go to `new`.
  pub record IsCursorStep (old : Spot) (step : CursorStep) (reply : Reply) (new : Spot) : Type 0 where
    pub move : CursorMove (state_at old) step reply (state_at new)
    pub nodes : Edits old step reply new

  -- the same, for two cursors
  abbrev pub Steps : {C O : Type 0} {g : ord.Ghosts ℕ} {g' : eq.Ghosts ℕ} {g'' : partial.Ghosts ℕ} {s : nodes_mut.Ghosts C ℕ ℕ O} {s' : nodes.Ghosts C ℕ ℕ}
      → (old : EntriesMut ℕ ℕ C O g g' g'' s s') → CursorStep → Reply → (new : EntriesMut ℕ ℕ C O g g' g'' s s') → Type 0
  Steps old step reply new = IsCursorStep (spot_of old) step reply (spot_of new)

  -- The steps were run one after another by a cursor over the old map, which began before its first pair, and their
  -- replies were appended to those that were there. The new map is the one behind the cursor at the end: its list is that
  -- of the pairs passed and then that of those left.
  abbrev pub RunsCursor : {Z : Type 0} → (old : TreeState ℕ ℕ) → List CursorStep → (new : TreeState ℕ ℕ) → (replies more : Vec Reply Z) → Type 0
  RunsCursor old steps new replies more =
      (front : ℕ) × RunsBy IsCursorStep (record { map = old; front = 0 }) steps (record { map = new; front = front }) replies more
