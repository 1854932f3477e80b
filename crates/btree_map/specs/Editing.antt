-- What contracts read of an editing cursor, and what it is after each of its steps.
-- The cursor keeps the address of the first item that is left, whose index in the list of the addresses is its place,
-- `entry_front`: `passed_of` are the pairs before that place, `left_of` those from there on, and together they are the
-- list. `InsertsEntry` puts a pair at the end of the former, `RemovesEntry` takes the first of the latter away, and a
-- pair that was lent is in `WritesPassed` the last one passed, in `WritesPeeked` still the first one left.
use Rattle.std.proofs.Common.{◌≡◌, ℕ, ◌+◌, ◌-◌, List, [], ◌∷◌, ◌++◌, IsSome, Option, Some, None, drop, length, slice_get, subst, sym, take}
use Rattle.std.proofs.lemmas.Option.{same_Some}
use Rattle.std.specs.Option.{ForSome, option_map}
use Rattle.std.specs.declared.cmp.Ord as ord
use Rattle.std.specs.declared.cmp.Ordering.{Ordering}
use Rattle.std.specs.declared.cmp.Ordering.TheVariants.{Less}
use Rattle.std.specs.declared.cmp.PartialEq as eq
use Rattle.std.specs.declared.cmp.PartialOrd as partial
use Rattle.btree_item.specs.Address.{Address}
use Rattle.btree_item.specs.declared.refused.Cause.{Cause}
use Rattle.btree_node.specs.declared.node_stores.Nodes as nodes
use Rattle.btree_node.specs.declared.node_stores.NodesMut as nodes_mut
use Rattle.btree_laws.specs.TreeAddresses.{item_addresses_of}
use Rattle.btree_laws.specs.TreeState.{TreeState, IsBTree, pairs_of}
use Rattle.btree_raw.specs.Limit.{IsWithinLimit}
use Rattle.btree_find.specs.Navigation.{HasPlace}
use Rattle.btree_ext.specs.InsertAt.{InsertsAt, IsRefusedAt}
use Rattle.btree_ext.specs.Remove.{IsRemoved}
use Rattle.btree_ext.specs.ValueWritten.{value_written}
use Rattle.btree_map.specs.Cursor.{WritesPlace, or_nowhere}
use Rattle.btree_map.specs.SpanLaws.{at-index}
use Rattle.btree_map.specs.Spans.{IsFirstListed, index_of, item_index}
use Rattle.btree_map.specs.WrittenAddresses.{written-addresses}
use Rattle.btree_map.specs.declared.cursor.editing.EntriesMut.{EntriesMut}

-- a count that is the place, if it is known
pub counted-again : (known : Option ℕ) (place : ℕ) → ForSome (option_map (λ _. place) known) (λ n. n ≡ place)
counted-again None place = λ n is. absurd (cc)
counted-again (Some m) place = λ n is. sym (same_Some place n is)

-- a key lies between two lists of pairs: above the last key of the one and below the first key of the other
pub record FitsBetween {K V : Type 0} (cmp : K → K → Ordering) (k : K) (passed left : List (K × V)) : Type 0 where
  pub above : (x : K × V) → slice_get passed (length passed - 1) ≡ Some x → cmp x.0 k ≡ Less
  pub below : (x : K × V) → slice_get left 0 ≡ Some x → cmp k x.0 ≡ Less

module _ {K V C O : Type 0} {g : ord.Ghosts K} {g' : eq.Ghosts K} {g'' : partial.Ghosts K} {s : nodes_mut.Ghosts C K V O} {s' : nodes.Ghosts C K V} where
  -- the place of the first item that is left; the end if none is
  abbrev pub entry_front : EntriesMut K V C O g g' g'' s s' → ℕ
  entry_front c = item_index c.map.now c.first

  -- the pairs that were passed
  abbrev pub passed_of : EntriesMut K V C O g g' g'' s s' → List (K × V)
  passed_of c = take (entry_front c) (pairs_of c.map.now)

  -- the pairs that are left
  abbrev pub left_of : EntriesMut K V C O g g' g'' s s' → List (K × V)
  left_of c = drop (entry_front c) (pairs_of c.map.now)

  -- the map once w is the value of the first pair that is left
  abbrev pub entry_written : EntriesMut K V C O g g' g'' s s' → V → TreeState K V
  entry_written c w = value_written c.map.now (or_nowhere c.first) w

  -- the cursor with w written, at the item with this address: this is what a step leaves
  abbrev pub standing : (c : EntriesMut K V C O g g' g'' s s') (w : V) (first : Option Address) (known : Option ℕ) → IsFirstListed c.map.now first
      → ForSome known (λ n. n ≡ item_index c.map.now first) → EntriesMut K V C O g g' g'' s s'
  standing c w first known stands counted =
      let same : item_addresses_of (entry_written c w) ≡ item_addresses_of c.map.now = written-addresses c.map.now (or_nowhere c.first) w in
      record {
        map = record c.map { now = entry_written c w };
        first = first;
        known = known;
        first_stands = subst (λ l. first ≡ slice_get l (index_of l first)) (sym same) stands;
        counted = subst (λ l. ForSome known (λ n. n ≡ index_of l first)) (sym same) counted;
      }

  -- the cursor where it was, once w is the value of the first pair that is left
  abbrev pub with_first : EntriesMut K V C O g g' g'' s s' → V → EntriesMut K V C O g g' g'' s s'
  with_first c w = standing c w c.first c.known c.first_stands c.counted

  -- the address of the item after the first one that is left
  abbrev pub next_of : EntriesMut K V C O g g' g'' s s' → Option Address
  next_of c = slice_get (item_addresses_of c.map.now) (entry_front c + 1)

  -- the cursor past that pair, once w is its value
  abbrev pub past_first : EntriesMut K V C O g g' g'' s s' → V → EntriesMut K V C O g g' g'' s s'
  past_first c w =
      let place = item_index c.map.now (next_of c) in
      standing c w (next_of c) (option_map (λ _. place) c.known) (at-index (item_addresses_of c.map.now) (entry_front c + 1)) (counted-again c.known place)

  -- the first pair that was left was k with `was`, and its value is w now: it is the last one passed
  pub record WritesPassed (c : EntriesMut K V C O g g' g'' s s') (k : K) (was w : V) : Type 0 where
    pub passed : passed_of (past_first c w) ≡ passed_of c ++ (k, w) ∷ []
    pub left : left_of c ≡ (k, was) ∷ left_of (past_first c w)
    pub writes : WritesPlace g.cmp c.map.now (entry_written c w) (or_nowhere c.first) (entry_front c) k was w

  -- the same, but the pair is still the first one left
  pub record WritesPeeked (c : EntriesMut K V C O g g' g'' s s') (k : K) (was w : V) : Type 0 where
    pub passed : passed_of (with_first c w) ≡ passed_of c
    pub rest : List (K × V)
    pub left : left_of c ≡ (k, was) ∷ rest
    pub written : left_of (with_first c w) ≡ (k, w) ∷ rest
    pub writes : WritesPlace g.cmp c.map.now (entry_written c w) (or_nowhere c.first) (entry_front c) k was w

  module _ (old new : EntriesMut K V C O g g' g'' s s') where
    -- the pair x is the last one passed now, at its address; the map has changed as by an insertion at an address
    pub record InsertsEntry (x : K × V) : Type 0 where
      pub same_map : new.map.ghost_name ≡ old.map.ghost_name
      pub passed : passed_of new ≡ passed_of old ++ x ∷ []
      pub left : left_of new ≡ left_of old
      pub gap : Address
      pub at : Address
      pub inserts : InsertsAt old.map.now new.map.now gap g.cmp at x

    -- an insertion at the place of the cursor was refused: the cursor is where it was, and in the map, which is well
    -- formed and within its limit, nothing but the count of refusals has changed
    pub record RefusesEntry (cause : Cause) : Type 0 where
      pub same_map : new.map.ghost_name ≡ old.map.ghost_name
      pub passed : passed_of new ≡ passed_of old
      pub left : left_of new ≡ left_of old
      pub tree : IsBTree g.cmp new.map.now
      pub within : IsWithinLimit new.map.now
      pub gap : Address
      pub has : HasPlace old.map.now gap (entry_front old)
      pub back : IsSome gap.offset
      pub refused : IsRefusedAt old.map.now new.map.now gap s.MayRefuse cause

    -- the pair x, the first one left, is the last one passed now, and the map is unchanged
    pub record PassesEntry (x : K × V) : Type 0 where
      pub same_map : new.map.ghost_name ≡ old.map.ghost_name
      pub unchanged : new.map.now ≡ old.map.now
      pub passed : passed_of new ≡ passed_of old ++ x ∷ []
      pub left : left_of old ≡ x ∷ left_of new

    -- the pair x, the first one left, was removed; the map has changed as by a removal at an address
    pub record RemovesEntry (x : K × V) : Type 0 where
      pub same_map : new.map.ghost_name ≡ old.map.ghost_name
      pub passed : passed_of new ≡ passed_of old
      pub left : left_of old ≡ x ∷ left_of new
      pub at : Address
      pub after : Address
      pub removed : IsRemoved old.map.now new.map.now g.cmp at x after
