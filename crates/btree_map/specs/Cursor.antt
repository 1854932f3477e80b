-- What contracts read of a cursor, and what it is once the value that it lent was written.
-- The cursor has the pairs from place `front` up to place `back`: `pairs_left` are those that are left. A step from the
-- front lends the value at place `front` and moves `front` by one; a step from the back moves `back` by one and lends the
-- value there. `WritesPlace` says what is behind the cursor then.
use Rattle.std.proofs.Common.{map as each}
use Rattle.std.proofs.Common.{◌≡◌, ◌≤◌, ◌∙◌, ℕ, ◌+◌, ◌-◌, List, [], ◌∷◌, ◌++◌, Option, Some, arith, drop, length, set, slice_get, subst, sym, take, ap}
use Rattle.std.specs.Option.{unwrap_or}
use Rattle.std.specs.declared.cmp.Ord as ord
use Rattle.std.specs.declared.cmp.Ordering.{Ordering}
use Rattle.std.specs.declared.cmp.PartialEq as eq
use Rattle.std.specs.declared.cmp.PartialOrd as partial
use Rattle.btree_item.specs.Address.{Address}
use Rattle.btree_node.specs.declared.node_stores.Nodes as nodes
use Rattle.btree_node.specs.declared.node_stores.NodesMut as nodes_mut
use Rattle.btree_laws.specs.Focus.Positions.{address_at}
use Rattle.btree_laws.specs.Place.{NOWHERE}
use Rattle.btree_laws.specs.TreeAddresses.{item_addresses_of}
use Rattle.btree_laws.specs.TreeState.{TreeState, pairs_of}
use Rattle.btree_laws.specs.Visits.{prior}
use Rattle.btree_ext.specs.Exchange.{IsValueExchanged}
use Rattle.btree_ext.specs.ValueWritten.{value_written}
use Rattle.btree_map.specs.WrittenAddresses.{written-addresses}
use Rattle.btree_map.specs.declared.cursor.IterMut.{IterMut}
use Rattle.btree_map.specs.declared.cursor.ValuesMut.{ValuesMut}

pub less-low : (m n : ℕ) → m ≤ n → m - 1 ≤ n
less-low m n low = omega arith

-- the address itself, or nowhere without one
abbrev pub or_nowhere : Option Address → Address
or_nowhere a = unwrap_or a (address_at NOWHERE 0)

-- the value of the item at a place was replaced, and only that: `was` by `is`; its key is k, and its address a
pub record WritesPlace {K V : Type 0} (cmp : K → K → Ordering) (old new : TreeState K V) (a : Address) (place : ℕ) (k : K) (was is : V) : Type 0 where
  pub listed : slice_get (item_addresses_of old) place ≡ Some a
  pub item : slice_get (pairs_of old) place ≡ Some (k, was)
  pub pairs : pairs_of new ≡ set (pairs_of old) place (k, is)
  pub addresses : item_addresses_of new ≡ item_addresses_of old
  pub exchanged : IsValueExchanged old new a cmp was is

module _ {K V C O : Type 0} {g : ord.Ghosts K} {g' : eq.Ghosts K} {g'' : partial.Ghosts K} {s : nodes_mut.Ghosts C K V O} {s' : nodes.Ghosts C K V} where
  -- the pairs that are left
  abbrev pub pairs_left : IterMut K V C O g g' g'' s s' → List (K × V)
  pairs_left c = take (c.back - c.front) (drop c.front (pairs_of c.map.now))

  -- the map once w is the value at place `front`
  abbrev pub front_written : IterMut K V C O g g' g'' s s' → V → TreeState K V
  front_written c w = value_written c.map.now (or_nowhere c.first) w

  -- the map once w is the value before place `back`
  abbrev pub back_written : IterMut K V C O g g' g'' s s' → V → TreeState K V
  back_written c w = value_written c.map.now (or_nowhere c.last) w

  -- the cursor past the pair at place `front`, once w is the value there
  abbrev pub past_front : IterMut K V C O g g' g'' s s' → V → IterMut K V C O g g' g'' s s'
  past_front c w =
      let same : item_addresses_of (front_written c w) ≡ item_addresses_of c.map.now = written-addresses c.map.now (or_nowhere c.first) w in
      record {
        map = record c.map { now = front_written c w };
        first = slice_get (item_addresses_of c.map.now) (c.front + 1);
        last = c.last;
        front = c.front + 1;
        back = c.back;
        first_stands = ap (λ l. slice_get l (c.front + 1)) (sym same);
        last_stands = c.last_stands ∙ ap (λ l. prior l c.back) (sym same);
        within = subst (λ l. c.back ≤ length l) (sym same) c.within;
      }

  -- the cursor before the pair before place `back`, once w is the value there
  abbrev pub past_back : IterMut K V C O g g' g'' s s' → V → IterMut K V C O g g' g'' s s'
  past_back c w =
      let same : item_addresses_of (back_written c w) ≡ item_addresses_of c.map.now = written-addresses c.map.now (or_nowhere c.last) w in
      record {
        map = record c.map { now = back_written c w };
        first = c.first;
        last = prior (item_addresses_of c.map.now) (c.back - 1);
        front = c.front;
        back = c.back - 1;
        first_stands = c.first_stands ∙ ap (λ l. slice_get l c.front) (sym same);
        last_stands = ap (λ l. prior l (c.back - 1)) (sym same);
        within = subst (λ l. c.back - 1 ≤ length l) (sym same) (less-low c.back (length (item_addresses_of c.map.now)) c.within);
      }

  -- the first pair that is left was k with `was`, and its value is w now: the cursor is past it
  pub record WritesFirst (c : IterMut K V C O g g' g'' s s') (k : K) (was w : V) : Type 0 where
    pub left : pairs_left c ≡ (k, was) ∷ pairs_left (past_front c w)
    pub writes : WritesPlace g.cmp c.map.now (front_written c w) (or_nowhere c.first) c.front k was w

  -- the same for the last pair that is left
  pub record WritesLast (c : IterMut K V C O g g' g'' s s') (k : K) (was w : V) : Type 0 where
    pub left : pairs_left c ≡ pairs_left (past_back c w) ++ (k, was) ∷ []
    pub writes : WritesPlace g.cmp c.map.now (back_written c w) (or_nowhere c.last) (c.back - 1) k was w

  -- the values that are left of a cursor over values
  abbrev pub values_left : ValuesMut K V C O g g' g'' s s' → List V
  values_left c = each (λ (x : K × V). x.1) (take (c.back - c.front) (drop c.front (pairs_of c.map.now)))

  -- the map once w is the value at place `front` of a cursor over values
  abbrev pub first_written : ValuesMut K V C O g g' g'' s s' → V → TreeState K V
  first_written c w = value_written c.map.now (or_nowhere c.first) w

  -- the cursor over values past the one at place `front`, once w is that value
  abbrev pub past_value : ValuesMut K V C O g g' g'' s s' → V → ValuesMut K V C O g g' g'' s s'
  past_value c w =
      let same : item_addresses_of (first_written c w) ≡ item_addresses_of c.map.now = written-addresses c.map.now (or_nowhere c.first) w in
      record {
        map = record c.map { now = first_written c w };
        first = slice_get (item_addresses_of c.map.now) (c.front + 1);
        front = c.front + 1;
        back = c.back;
        first_stands = ap (λ l. slice_get l (c.front + 1)) (sym same);
        within = subst (λ l. c.back ≤ length l) (sym same) c.within;
      }

  -- the first value that is left was `was`, and it is w now: the cursor is past it
  pub record WritesFirstValue (c : ValuesMut K V C O g g' g'' s s') (was w : V) : Type 0 where
    pub key : K
    pub left : values_left c ≡ was ∷ values_left (past_value c w)
    pub writes : WritesPlace g.cmp c.map.now (first_written c w) (or_nowhere c.first) c.front key was w
