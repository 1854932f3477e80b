-- What contracts read of a cursor over a range, and what it is once the value that it lent was written.
-- What is left are the pairs from place `range_front` up to place `range_back`: `range_left`. A step from the front lends
-- the value at `range_front`, and a step from the back the one before `range_back`; `WritesPlace` says what is behind the
-- cursor then.
use Rattle.std.proofs.Common.{◌≡◌, ℕ, ◌+◌, ◌-◌, List, [], ◌∷◌, ◌++◌, drop, nat_lt, slice_get, subst, sym, take, ap}
use Rattle.std.specs.declared.cmp.Ord as ord
use Rattle.std.specs.declared.cmp.PartialEq as eq
use Rattle.std.specs.declared.cmp.PartialOrd as partial
use Rattle.btree_item.specs.Address.{Address}
use Rattle.btree_node.specs.declared.node_stores.Nodes as nodes
use Rattle.btree_node.specs.declared.node_stores.NodesMut as nodes_mut
use Rattle.btree_laws.specs.TreeAddresses.{item_addresses_of}
use Rattle.btree_laws.specs.TreeState.{TreeState, pairs_of}
use Rattle.btree_laws.specs.Visits.{prior}
use Rattle.btree_ext.specs.ValueWritten.{value_written}
use Rattle.btree_map.specs.Cursor.{WritesPlace, or_nowhere}
use Rattle.btree_map.specs.SpanLaws.{at-index, before-index}
use Rattle.btree_map.specs.Spans.{index_after, index_of}
use Rattle.btree_map.specs.WrittenAddresses.{written-addresses}
use Rattle.btree_map.specs.declared.cursor.RangeMut.{RangeMut}

module _ {K V C O : Type 0} {g : ord.Ghosts K} {g' : eq.Ghosts K} {g'' : partial.Ghosts K} {s : nodes_mut.Ghosts C K V O} {s' : nodes.Ghosts C K V} where
  -- the place of the first item that is not passed
  abbrev pub range_front : RangeMut K V C O g g' g'' s s' → ℕ
  range_front c = index_of (item_addresses_of c.map.now) c.first

  -- the place after the last item that is not passed
  abbrev pub range_back : RangeMut K V C O g g' g'' s s' → ℕ
  range_back c = index_after (item_addresses_of c.map.now) c.last

  -- the pairs that are left
  abbrev pub range_left : RangeMut K V C O g g' g'' s s' → List (K × V)
  range_left c = take (range_back c - range_front c) (drop (range_front c) (pairs_of c.map.now))

  -- the map once w is the value at the front
  abbrev pub first_in_range : RangeMut K V C O g g' g'' s s' → V → TreeState K V
  first_in_range c w = value_written c.map.now (or_nowhere c.first) w

  -- the map once w is the value before the back
  abbrev pub last_in_range : RangeMut K V C O g g' g'' s s' → V → TreeState K V
  last_in_range c w = value_written c.map.now (or_nowhere c.last) w

  -- the cursor with other ends, and with w written at an address: this is what a step leaves
  abbrev pub moved : (c : RangeMut K V C O g g' g'' s s') (a : Address) (w : V) (front back : ℕ) → RangeMut K V C O g g' g'' s s'
  moved c a w front back =
      let list = item_addresses_of c.map.now in
      let first = slice_get list front in
      let last = prior list back in
      let same : item_addresses_of (value_written c.map.now a w) ≡ list = written-addresses c.map.now a w in
      record {
        map = record c.map { now = value_written c.map.now a w };
        first = first;
        last = last;
        any_left = nat_lt (index_of list first) (index_after list last);
        first_stands = subst (λ l. first ≡ slice_get l (index_of l first)) (sym same) (at-index list front);
        last_stands = subst (λ l. last ≡ prior l (index_after l last)) (sym same) (before-index list back);
        ordered = ap (λ l. nat_lt (index_of l first) (index_after l last)) (sym same);
      }

  -- the cursor past the pair at the front, once w is the value there
  abbrev pub past_first : RangeMut K V C O g g' g'' s s' → V → RangeMut K V C O g g' g'' s s'
  past_first c w = moved c (or_nowhere c.first) w (range_front c + 1) (range_back c)

  -- the cursor before the pair before the back, once w is the value there
  abbrev pub past_last : RangeMut K V C O g g' g'' s s' → V → RangeMut K V C O g g' g'' s s'
  past_last c w = moved c (or_nowhere c.last) w (range_front c) (range_back c - 1)

  -- the first pair that is left was k with `was`, and its value is w now: the cursor is past it
  pub record WritesFirstInRange (c : RangeMut K V C O g g' g'' s s') (k : K) (was w : V) : Type 0 where
    pub left : range_left c ≡ (k, was) ∷ range_left (past_first c w)
    pub front : range_front (past_first c w) ≡ range_front c + 1
    pub back : range_back (past_first c w) ≡ range_back c
    pub writes : WritesPlace g.cmp c.map.now (first_in_range c w) (or_nowhere c.first) (range_front c) k was w

  -- the same for the last pair that is left
  pub record WritesLastInRange (c : RangeMut K V C O g g' g'' s s') (k : K) (was w : V) : Type 0 where
    pub left : range_left c ≡ range_left (past_last c w) ++ (k, was) ∷ []
    pub front : range_front (past_last c w) ≡ range_front c
    pub back : range_back (past_last c w) ≡ range_back c - 1
    pub writes : WritesPlace g.cmp c.map.now (last_in_range c w) (or_nowhere c.last) (range_back c - 1) k was w
