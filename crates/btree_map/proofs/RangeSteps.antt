-- A step of a cursor over a range: what is left, and where the ends stand.
use Rattle.btree_map.proofs.Common.{◌≡◌, ◌∙◌, ℕ, ◌+◌, ◌-◌, ◌<◌, ◌∷◌, ◌++◌, [], Bool, false, true, not, List, Option, Some, length, nat_lt, take, drop, slice_get, inl, inr, sym, ap, arith, cases_Bool, ltb-false, ltb-true, length-take, Address, item_addresses_of, TreeState, pairs_of, prior, value_written, WritesPlace, or_nowhere, range_back, range_front, index_after, index_of, written-addresses}
use Rattle.std.proofs.lemmas.Bool.{not-true}
use Rattle.std.proofs.lemmas.List.{length-drop}
use Rattle.std.specs.declared.cmp.Ord as ord
use Rattle.std.specs.declared.cmp.PartialEq as eq
use Rattle.std.specs.declared.cmp.PartialOrd as partial
use Rattle.btree_node.specs.declared.node_stores.Nodes as nodes
use Rattle.btree_node.specs.declared.node_stores.NodesMut as nodes_mut
use Rattle.btree_map.specs.RangeCursor.{WritesFirstInRange, WritesLastInRange, first_in_range, last_in_range, past_first, past_last, range_left}
use Rattle.btree_map.specs.SpanLaws.{at-index, before-index}
use Rattle.btree_map.specs.declared.cursor.RangeMut.{RangeMut}
use Rattle.btree_map.proofs.IndexLemmas.{IsOnce, back-low, next-back, next-front}
use Rattle.btree_map.proofs.SpanLemmas.{span-first, span-last}

-- ends that are found in the list stand at their indices
pub stands-first : (list : List Address) (found : Option Address) (n : ℕ) → found ≡ slice_get list n → found ≡ slice_get list (index_of list found)
stands-first list found n is = is ∙ at-index list n ∙ ap (λ o. slice_get list (index_of list o)) (sym is)

pub stands-last : (list : List Address) (found : Option Address) (n : ℕ) → found ≡ prior list n → found ≡ prior list (index_after list found)
stands-last list found n is = is ∙ before-index list n ∙ ap (λ o. prior list (index_after list o)) (sym is)

-- the ends stand at their indices still, once a value was written
module _ {K V : Type 0} (s : TreeState K V) (a : Address) (w : V) where
  abbrev list : List Address
  list = item_addresses_of s

  abbrev after : List Address
  after = item_addresses_of (value_written s a w)

  same : after ≡ list
  same = written-addresses s a w

  pub again-first : (found : Option Address) (n : ℕ) → found ≡ slice_get list n → found ≡ slice_get after (index_of after found)
  again-first found n is =
      stands-first list found n is ∙ ap (λ l. slice_get l (index_of l found)) (sym same)

  pub again-last : (found : Option Address) (n : ℕ) → found ≡ prior list n → found ≡ prior after (index_after after found)
  again-last found n is =
      stands-last list found n is ∙ ap (λ l. prior l (index_after l found)) (sym same)

  pub again-ordered : (any : Bool) (first last : Option Address) → any ≡ nat_lt (index_of list first) (index_after list last)
      → any ≡ nat_lt (index_of after first) (index_after after last)
  again-ordered any first last is = is ∙ ap (λ l. nat_lt (index_of l first) (index_after l last)) (sym same)

module _ {K V C O : Type 0} {g : ord.Ghosts K} {g' : eq.Ghosts K} {g'' : partial.Ghosts K} {s : nodes_mut.Ghosts C K V O} {s' : nodes.Ghosts C K V}
    (c : RangeMut K V C O g g' g'' s s') where
  -- something is left, or nothing
  pub some-left : c.any_left ≡ true → range_front c < range_back c
  some-left any = ltb-true (range_front c) (range_back c) (sym c.ordered ∙ any)

  pub none-left : not c.any_left ≡ true → range_left c ≡ []
  none-left told =
      let none : c.any_left ≡ false = not-true c.any_left told in
      let low = ltb-false (range_front c) (range_back c) (sym c.ordered ∙ none) in
      let left : range_back c - range_front c ≡ 0 = omega arith in
      ap (λ n. take n (drop (range_front c) (pairs_of c.map.now))) left

  -- without pairs that are left, the cursor says so
  pub told-none : length (item_addresses_of c.map.now) ≡ length (pairs_of c.map.now) → range_left c ≡ [] → not c.any_left ≡ true
  told-none long empty = elim (cases_Bool c.any_left) [
    | inl any ↦
        let some = some-left any in
        let low = back-low (item_addresses_of c.map.now) c.last c.last_stands in
        let left = range_back c - range_front c in
        let rest = drop (range_front c) (pairs_of c.map.now) in
        absurd (omega (arith, ap length empty, length-take left rest, length-drop (range_front c) (pairs_of c.map.now)))
    | inr none ↦ ap not none
  ]

  module _ (once : IsOnce (item_addresses_of c.map.now)) (some : range_front c < range_back c) (k : K) (was w : V) where
    -- the places of both ends after a step
    first-front : range_front (past_first c w) ≡ range_front c + 1
    first-front =
        ap (λ l. index_of l (slice_get (item_addresses_of c.map.now) (range_front c + 1))) (written-addresses c.map.now (or_nowhere c.first) w)
        ∙ next-front (item_addresses_of c.map.now) once c.first c.last c.first_stands c.last_stands some

    first-back : range_back (past_first c w) ≡ range_back c
    first-back =
        ap (λ l. index_after l (prior (item_addresses_of c.map.now) (range_back c))) (written-addresses c.map.now (or_nowhere c.first) w)
        ∙ ap (index_after (item_addresses_of c.map.now)) (sym c.last_stands)

    last-front : range_front (past_last c w) ≡ range_front c
    last-front =
        ap (λ l. index_of l (slice_get (item_addresses_of c.map.now) (range_front c))) (written-addresses c.map.now (or_nowhere c.last) w)
        ∙ ap (index_of (item_addresses_of c.map.now)) (sym c.first_stands)

    last-back : range_back (past_last c w) ≡ range_back c - 1
    last-back =
        ap (λ l. index_after l (prior (item_addresses_of c.map.now) (range_back c - 1))) (written-addresses c.map.now (or_nowhere c.last) w)
        ∙ next-back (item_addresses_of c.map.now) once c.first c.last c.first_stands c.last_stands some

    pub writes-first-in-range : slice_get (pairs_of c.map.now) (range_front c) ≡ Some (k, was)
        → WritesPlace g.cmp c.map.now (first_in_range c w) (or_nowhere c.first) (range_front c) k was w → WritesFirstInRange c k was w
    writes-first-in-range here x = record {
      left =
          span-first (pairs_of c.map.now) (range_front c) (range_back c) some (k, was) (k, w) here
          ∙ ap (λ l. (k, was) ∷ take (range_back c - (range_front c + 1)) (drop (range_front c + 1) l)) (sym x.pairs)
          ∙ (λ i. (k, was) ∷ take (sym first-back i - sym first-front i) (drop (sym first-front i) (pairs_of (first_in_range c w))));
      front = first-front;
      back = first-back;
      writes = x;
    }

    pub writes-last-in-range : slice_get (pairs_of c.map.now) (range_back c - 1) ≡ Some (k, was)
        → WritesPlace g.cmp c.map.now (last_in_range c w) (or_nowhere c.last) (range_back c - 1) k was w → WritesLastInRange c k was w
    writes-last-in-range here x = record {
      left =
          span-last (pairs_of c.map.now) (range_front c) (range_back c) some (k, was) (k, w) here
          ∙ ap (λ (l : List (K × V)). take (range_back c - 1 - range_front c) (drop (range_front c) l) ++ (k, was) ∷ []) (sym x.pairs)
          ∙ (λ i. take (sym last-back i - sym last-front i) (drop (sym last-front i) (pairs_of (last_in_range c w))) ++ (k, was) ∷ []);
      front = last-front;
      back = last-back;
      writes = x;
    }
