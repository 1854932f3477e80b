-- What a cursor is once the value that a step lent was written.
-- Each word says that the last value behind the borrow is the one that the cursor lent, and that nothing else has changed.
use Rattle.std.specs.Prelude.{[], Option}
use Rattle.std.specs.Borrow.{Fml, Lends, LendsIf, MutBor, RattleType}
use Rattle.std.specs.declared.cmp.Ord as ord
use Rattle.std.specs.declared.cmp.PartialEq as eq
use Rattle.std.specs.declared.cmp.PartialOrd as partial
use mir.Syntax.{named}
use Rattle.btree_node.specs.declared.node_stores.Nodes as nodes
use Rattle.btree_node.specs.declared.node_stores.NodesMut as nodes_mut
use Rattle.btree_map.specs.Cursor.{past_back, past_front, past_value}
use Rattle.btree_map.specs.Editing.{past_first, with_first}
use Rattle.btree_map.specs.RangeCursor as range
use Rattle.btree_map.specs.declared.cursor.IterMut.{IterMut}
use Rattle.btree_map.specs.declared.cursor.RangeMut.{RangeMut}
use Rattle.btree_map.specs.declared.cursor.ValuesMut.{ValuesMut}
use Rattle.btree_map.specs.declared.cursor.editing.EntriesMut.{EntriesMut}
use Rattle.btree_map.specs.contracts.cursor.IterMut.{the_row as iter_row}
use Rattle.btree_map.specs.contracts.cursor.RangeMut.{the_row as range_row}
use Rattle.btree_map.specs.contracts.cursor.ValuesMut.{the_row as values_row}
use Rattle.btree_map.specs.contracts.cursor.editing.EntriesMut.{the_row as entries_row}

module _ (K V C O : RattleType) {g : ord.Ghosts K.Denot} {g' : eq.Ghosts K.Denot} {g'' : partial.Ghosts K.Denot}
    {s : nodes_mut.Ghosts C.Denot K.Denot V.Denot O.Denot} {s' : nodes.Ghosts C.Denot K.Denot V.Denot} where
  module _ (c : MutBor (IterMut K.Denot V.Denot C.Denot O.Denot g g' g'' s s')) (value : MutBor V.Denot) where
    -- the value is lent, and the cursor is past the first pair that was left
    abbrev pub lends_front : Fml
    lends_front = Lends (iter_row (record { mir = named 1; lft = [] }) K V C O g g' g'' s s') V c value (past_front c.now)

    -- the value is lent, and the cursor is past the last pair that was left
    abbrev pub lends_back : Fml
    lends_back = Lends (iter_row (record { mir = named 1; lft = [] }) K V C O g g' g'' s s') V c value (past_back c.now)

  module _ (c : MutBor (RangeMut K.Denot V.Denot C.Denot O.Denot g g' g'' s s')) (value : MutBor V.Denot) where
    -- the same between two bounds
    abbrev pub lends_first_in_range : Fml
    lends_first_in_range = Lends (range_row (record { mir = named 1; lft = [] }) K V C O g g' g'' s s') V c value (range.past_first c.now)

    -- the same at the back of a range
    abbrev pub lends_last_in_range : Fml
    lends_last_in_range = Lends (range_row (record { mir = named 1; lft = [] }) K V C O g g' g'' s s') V c value (range.past_last c.now)

  module _ (c : MutBor (EntriesMut K.Denot V.Denot C.Denot O.Denot g g' g'' s s')) (value : MutBor V.Denot) where
    -- the cursor is past the pair that was next
    abbrev pub lends_passed : Fml
    lends_passed = Lends (entries_row (record { mir = named 1; lft = [] }) K V C O g g' g'' s s') V c value (past_first c.now)

    -- the pair that was next is next still
    abbrev pub lends_peeked : Fml
    lends_peeked = Lends (entries_row (record { mir = named 1; lft = [] }) K V C O g g' g'' s s') V c value (with_first c.now)

  module _ (c : MutBor (ValuesMut K.Denot V.Denot C.Denot O.Denot g g' g'' s s')) where
    -- the cursor is past the first value that was left
    abbrev pub lends_first_value : MutBor V.Denot → Fml
    lends_first_value value = Lends (values_row (record { mir = named 1; lft = [] }) K V C O g g' g'' s s') V c value (past_value c.now)

    -- the same, or nothing has changed without one
    abbrev pub lends_next_value : Option (MutBor V.Denot) → Fml
    lends_next_value value = LendsIf (values_row (record { mir = named 1; lft = [] }) K V C O g g' g'' s s') V c value (past_value c.now) c.now
