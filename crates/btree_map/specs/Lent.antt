-- What the map is once a borrow of a value ends, that of a key or of an entry.
use mir.Syntax.{named}
use Rattle.std.specs.Prelude.{◌≡◌, [], IfErr, Option, Result}
use Rattle.std.specs.BTreeMap.Lent.{OrdMembers}
use Rattle.std.specs.declared.cmp.Ordering.{Ordering}
use Rattle.std.specs.Borrow.{Fml, Lends, LendsIf, LendsSoOk, MutBor, RattleType, RestsIfErr, RestsIfNone}
use Rattle.std.specs.declared.cmp.Ord as ord
use Rattle.std.specs.declared.cmp.PartialEq as eq
use Rattle.std.specs.declared.cmp.PartialOrd as partial
use Rattle.btree_item.specs.declared.refused.Refused.{Refused}
use Rattle.btree_node.specs.declared.node_stores.Nodes as nodes
use Rattle.btree_node.specs.declared.node_stores.NodesMut as nodes_mut
use Rattle.btree_ext.specs.Insert.{IsRefusedAtGap}
use Rattle.btree_ext.specs.KeyWritten.{key_written}
use Rattle.btree_ext.specs.ValueWritten.{value_written}
use Rattle.btree_raw.specs.Lent.{StoreMembers}
use Rattle.btree_map.specs.Entry.{IsRefusedEntry, WritesEntry, entry_map, with_entry_value}
use Rattle.btree_map.specs.declared.entry.Entry.{Entry}
use Rattle.btree_map.specs.declared.entry.OccupiedEntry.{OccupiedEntry}
use Rattle.btree_map.specs.declared.entry.VacantEntry.{VacantEntry}
use Rattle.btree_map.specs.Written.{IsInsertedWith}
use Rattle.btree_laws.specs.TreeState.{TreeState}
use Rattle.btree_map.specs.contracts.entry.OccupiedEntry.{the_row as occupied_row}
use Rattle.btree_map.specs.contracts.map.BTreeMap.{the_row}

-- the type of a map
abbrev pub map_row : (K V C O : RattleType) → OrdMembers K.Denot → StoreMembers C.Denot K.Denot V.Denot → RattleType
map_row K V C O g s =
    the_row K V C O
    (record { cmp = g.cmp })
    (record { eq = g.eq })
    (record { partial_cmp = g.partial_cmp })
    (record { MayRefuse = s.MayRefuse; Fits = s.Fits; written = s.written })
    (record { content = s.content; refusals = s.refusals; CanHold = s.CanHold })

-- the last value behind the borrow is the one at the key; without one nothing has changed
abbrev pub lends_at_key : (K V C O : RattleType) → OrdMembers K.Denot → StoreMembers C.Denot K.Denot V.Denot
    → MutBor (TreeState K.Denot V.Denot) → K.Denot → Option (MutBor V.Denot) → Fml
lends_at_key K V C O g s map k value = LendsIf (map_row K V C O g s) V map value (key_written g.cmp k map.now) map.now

-- so it is at the key that a query is equal to
abbrev pub lends_by : (K V C O : RattleType) → {Q : Type 0} → OrdMembers K.Denot → StoreMembers C.Denot K.Denot V.Denot
    → MutBor (TreeState K.Denot V.Denot) → (K.Denot → Q → Ordering) → Q → Option (MutBor V.Denot) → Fml
lends_by K V C O g s map compare query value = LendsIf (map_row K V C O g s) V map value (key_written compare query map.now) map.now

module _ (K V C O : RattleType) {g : ord.Ghosts K.Denot} {g' : eq.Ghosts K.Denot} {g'' : partial.Ghosts K.Denot}
    {s : nodes_mut.Ghosts C.Denot K.Denot V.Denot O.Denot} {s' : nodes.Ghosts C.Denot K.Denot V.Denot} where
  -- the last value behind the borrow is that of the entry; an insertion that was refused has changed nothing but the
  -- count of refusals
  abbrev pub entry_lends : Entry K.Denot V.Denot C.Denot O.Denot g g' g'' s s' → Result (MutBor V.Denot) (Refused K.Denot V.Denot) → Fml
  entry_lends e r = LendsSoOk (the_row K V C O g g' g'' s s') V (entry_map e) r (λ new w. WritesEntry e new w) (λ new. IfErr r (λ x. IsRefusedEntry e new x.cause))

  -- an entry that is there has the map itself; without one nothing has changed
  abbrev pub rests_if_none : MutBor (TreeState K.Denot V.Denot) → Option (OccupiedEntry K.Denot V.Denot C.Denot O.Denot g g' g'' s s') → Fml
  rests_if_none map entry = RestsIfNone (the_row K V C O g g' g'' s s') map (λ e. e.map.ghost_name) entry (λ new. new ≡ map.now)

  -- the last value behind the borrow is that of an entry that is there, and nothing else has changed
  abbrev pub lends_occupied : OccupiedEntry K.Denot V.Denot C.Denot O.Denot g g' g'' s s' → MutBor V.Denot → Fml
  lends_occupied e value = Lends (the_row K V C O g g' g'' s s') V e.map value (value_written e.map.now e.at)

  -- the same where the entry is there still, as after `get_mut`
  abbrev pub lends_in_entry : MutBor (OccupiedEntry K.Denot V.Denot C.Denot O.Denot g g' g'' s s') → MutBor V.Denot → Fml
  lends_in_entry e value = Lends (occupied_row (record { mir = named 1; lft = [] }) K V C O g g' g'' s s') V e value (with_entry_value e.now)

  -- the pair was inserted, and the last value behind the borrow is its value; a refused insertion has changed nothing
  -- but the count of refusals
  abbrev pub lends_inserted : VacantEntry K.Denot V.Denot C.Denot O.Denot g g' g'' s s' → V.Denot → Result (MutBor V.Denot) (Refused K.Denot V.Denot) → Fml
  lends_inserted e value r =
      LendsSoOk (the_row K V C O g g' g'' s s') V e.map r
      (λ new w. IsInsertedWith g.cmp e.key e.map.now new value w)
      (λ new. IfErr r (λ x. IsRefusedAtGap g.cmp e.key e.map.now new s.MayRefuse x.cause))

  -- the entry of a key that has a value has the map itself; a refused insertion has changed nothing but the count of refusals
  abbrev pub entry_rests : Entry K.Denot V.Denot C.Denot O.Denot g g' g'' s s' → Result (OccupiedEntry K.Denot V.Denot C.Denot O.Denot g g' g'' s s') (Refused K.Denot V.Denot) → Fml
  entry_rests e r =
      RestsIfErr (the_row K V C O g g' g'' s s') (entry_map e) (λ o. o.map.ghost_name) r (λ new. IfErr r (λ x. IsRefusedEntry e new x.cause))

  -- the entry whose value was replaced has the map itself
  abbrev pub rests_if_entered : OccupiedEntry K.Denot V.Denot C.Denot O.Denot g g' g'' s s' → Result (OccupiedEntry K.Denot V.Denot C.Denot O.Denot g g' g'' s s') (Refused K.Denot V.Denot) → Fml
  rests_if_entered e r =
      RestsIfErr (the_row K V C O g g' g'' s s') e.map (λ o. o.map.ghost_name) r (λ new. Unit {0})

  -- the entry of a pair that was inserted has the map itself; a refused insertion has changed nothing but the count of refusals
  abbrev pub rests_if_refused : VacantEntry K.Denot V.Denot C.Denot O.Denot g g' g'' s s' → Result (OccupiedEntry K.Denot V.Denot C.Denot O.Denot g g' g'' s s') (Refused K.Denot V.Denot) → Fml
  rests_if_refused e r =
      RestsIfErr (the_row K V C O g g' g'' s s') e.map (λ o. o.map.ghost_name) r (λ new. IfErr r (λ x. IsRefusedAtGap g.cmp e.key e.map.now new s.MayRefuse x.cause))
