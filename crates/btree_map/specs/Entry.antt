-- What a contract reads of an entry, and what the map is once the entry's value was written.
-- `SetsValue` is the main word: the key was inserted with a value, or the value that was there was replaced.
use Rattle.std.proofs.Common.{◌≡◌, ◌∙◌, ap, refl, is_some, IsSome, IfSome, List, Option, Some, None, Result, Ok, Err, option_map, option_and_then}
use Rattle.std.specs.Prelude.{IsSomeAnd}
use Rattle.std.specs.Borrow.{MutBor}
use Rattle.std.specs.List.{insert}
use Rattle.std.specs.declared.cmp.Ord as ord
use Rattle.std.specs.declared.cmp.PartialEq as eq
use Rattle.std.specs.declared.cmp.PartialOrd as partial
use Rattle.btree_item.specs.Pairs.{before}
use Rattle.btree_item.specs.Address.{Address}
use Rattle.btree_item.specs.declared.refused.Cause.{Cause}
use Rattle.btree_item.specs.declared.refused.Refused.{Refused}
use Rattle.btree_node.specs.declared.node_stores.Nodes as nodes
use Rattle.btree_node.specs.declared.node_stores.NodesMut as nodes_mut
use Rattle.btree_laws.specs.TreeState.{TreeState, item_of, pairs_of}
use Rattle.btree_ext.specs.Insert.{IsRefusedAtGap}
use Rattle.btree_ext.specs.InsertAbsent.{InsertsAbsent}
use Rattle.btree_ext.specs.ValueWritten.{value_written}
use Rattle.btree_ext.proofs.WrittenLaws.{written-item}
use Rattle.btree_map.specs.Written.{IsInsertedWith, WritesValueAt, list_written}
use Rattle.btree_map.specs.declared.entry.Entry.{Entry}
use Rattle.btree_map.specs.declared.entry.Entry.TheVariants.{Vacant, Occupied}
use Rattle.btree_map.specs.declared.entry.OccupiedEntry.{OccupiedEntry}

some-map : {X Y : Type 0} (f : X → Y) (o : Option X) → is_some (option_map f o) ≡ is_some o
some-map f None = refl
some-map f (Some x) = refl

-- an item is at the address still, after a value was written there
pub occupied-written : {K V : Type 0} (s : TreeState K V) (a : Address) (w : V) → IsSome (item_of s a) → IsSome (item_of (value_written s a w) a)
occupied-written s a w is = ap is_some (written-item w s a) ∙ (some-map (λ x. (x.0, w)) (item_of s a) ∙ is)

module _ {K V C O : Type 0} {g : ord.Ghosts K} {g' : eq.Ghosts K} {g'' : partial.Ghosts K} {s : nodes_mut.Ghosts C K V O} {s' : nodes.Ghosts C K V} where
  -- the reference to the map
  abbrev pub entry_map : Entry K V C O g g' g'' s s' → MutBor (TreeState K V)
  entry_map (Vacant e) = e.map
  entry_map (Occupied o) = o.map

  -- the address of the key, or of its gap
  abbrev pub entry_address : Entry K V C O g g' g'' s s' → Address
  entry_address (Vacant e) = e.gap
  entry_address (Occupied o) = o.at

  -- the same as a search returns it: `Ok` if the key is there
  abbrev pub entry_search : Entry K V C O g g' g'' s s' → Result Address Address
  entry_search (Vacant e) = Err e.gap
  entry_search (Occupied o) = Ok o.at

  -- the pair, if the key is there
  abbrev pub entry_pair : Entry K V C O g g' g'' s s' → Option (K × V)
  entry_pair (Vacant e) = None
  entry_pair (Occupied o) = item_of o.map.now o.at

  -- the value, if the key is there
  abbrev pub entry_value : Entry K V C O g g' g'' s s' → Option V
  entry_value e = option_map (λ x. x.1) (entry_pair e)

  -- the key that was asked for, if it is not there
  abbrev pub asked_key : Entry K V C O g g' g'' s s' → Option K
  asked_key (Vacant e) = Some e.key
  asked_key (Occupied o) = None

  -- the key that was asked for is not there, and this holds of it and a value
  abbrev pub HoldsOfAsked : Entry K V C O g g' g'' s s' → (K → V → Type 0) → V → Type 0
  HoldsOfAsked e Holds value = IsSomeAnd (asked_key e) (λ key. Holds key value)

  -- the key that was asked for, or the one that is there
  abbrev pub entry_key : Entry K V C O g g' g'' s s' → Option K
  entry_key (Vacant e) = Some e.key
  entry_key (Occupied o) = option_map (λ x. x.0) (item_of o.map.now o.at)

  -- the pair of an occupied entry, if there is one
  abbrev pub pair_of_occupied : Option (OccupiedEntry K V C O g g' g'' s s') → Option (K × V)
  pair_of_occupied entry = option_and_then (λ o. item_of o.map.now o.at) entry

  -- the map's list once w is the value
  abbrev pub list_with_value : Entry K V C O g g' g'' s s' → V → List (K × V)
  list_with_value (Vacant e) w = insert (pairs_of e.map.now) (before g.cmp e.key (pairs_of e.map.now)) (e.key, w)
  list_with_value (Occupied o) w = list_written g.cmp o.map.now o.at w

  -- the map once w is the value: the key was inserted with a value, or another value was there
  abbrev pub SetsValue : Entry K V C O g g' g'' s s' → TreeState K V → V → Type 0
  SetsValue (Vacant e) new w = (given : V) × IsInsertedWith g.cmp e.key e.map.now new given w
  SetsValue (Occupied o) new w = (was : V) × WritesValueAt g.cmp o.map.now new o.at was w

  -- the same, with the list
  pub record WritesEntry (e : Entry K V C O g g' g'' s s') (new : TreeState K V) (w : V) : Type 0 where
    pub pairs : pairs_of new ≡ list_with_value e w
    pub sets : SetsValue e new w

  -- a value was entered: the pair was inserted and is at an address, or the value that was there was replaced
  abbrev pub EntersValue : Entry K V C O g g' g'' s s' → TreeState K V → V → Address → Type 0
  EntersValue (Vacant e) new value at = InsertsAbsent g.cmp e.key e.map.now new value at
  EntersValue (Occupied o) new value at = (at ≡ o.at) × ((was : V) × WritesValueAt g.cmp o.map.now new at was value)

  -- an insertion of the key was refused; for a key that is there nothing is refused
  abbrev pub IsRefusedEntry : Entry K V C O g g' g'' s s' → TreeState K V → Cause → Type 0
  IsRefusedEntry (Vacant e) new cause = IsRefusedAtGap g.cmp e.key e.map.now new s.MayRefuse cause
  IsRefusedEntry (Occupied o) new cause = ⊥

  -- the map once the value that was there is another; without a value nothing has changed
  abbrev pub ModifiesEntry : Entry K V C O g g' g'' s s' → TreeState K V → Option V → Type 0
  ModifiesEntry (Vacant e) new value = new ≡ e.map.now
  ModifiesEntry (Occupied o) new value = IfSome value (λ w. (was : V) × WritesValueAt g.cmp o.map.now new o.at was w)

  -- the entry once w is the value
  abbrev pub with_entry_value : OccupiedEntry K V C O g g' g'' s s' → V → OccupiedEntry K V C O g g' g'' s s'
  with_entry_value o w = record {
    map = record o.map { now = value_written o.map.now o.at w };
    at = o.at;
    occupied = occupied-written o.map.now o.at w o.occupied;
  }

-- an error has the key that was asked for, and a value of which this holds
abbrev pub ReturnsAsked : {K V : Type 0} → (asked : Option K) → (Holds : V → Type 0) → Refused K V → Type 0
ReturnsAsked asked Holds error = (asked ≡ Some error.key) × Holds error.value
