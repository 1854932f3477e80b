-- A range that is put at an address: between others, or over parts of those beside it, which are given back if it is
-- refused.
use Rattle.btree_range_map.proofs.Common.{◌≡◌, ◌≤◌, ◌<◌, ◌∙◌, ℕ, suc, List, length, set, slice_get, Some, refl, sym, ap, subst, arith, ◌⊎◌, inl, inr, cases_lt, cases_order, length-set, same_Some, slice_get_within, insert, nat_cmp, Address, Cause, Clone, Count, RangeCause, SetsEnd, Store, TreeState, item_of, pairs_of, FitsAt, ReplacesAt, HasPlace, IsItemAddress, value-list, IsExchanged, IsValueExchanged, InsertsAt, Span, IsApart, AreRuns, IsAssigned, JoinsNone, value_at, Assigns, CanAbsorb, Overlaps, between-from}
use Rattle.btree_node.specs.declared.node.Node.{Node}
use Rattle.btree_store.specs.Content.{Content}
use Rattle.btree_laws.specs.TreeState.{refused_once}
use Rattle.btree_ext.specs.InsertAt.{IsRefusedAt}
use Rattle.btree_range_map.specs.Refusals.{by_node}
use Rattle.btree_range_map.specs.State.{ranges_of}
use Rattle.btree_range_map.specs.State as state
use Rattle.btree_range_map.specs.Steps.{Absorbs, CanPut, CanPutOver, IsRefusedIn, KeepsBefore}
use Rattle.btree_range_map.proofs.AbsorbLemmas.{span_to}
use Rattle.btree_range_map.proofs.AssignLemmas.{assigned-after, assigned-wider, joins-none, put-assigned, put-runs}
use Rattle.btree_range_map.proofs.KeptLemmas.{kept-item, kept-here, kept-place, refused-keeps, refused-one, sets-end}
use Rattle.btree_range_map.proofs.LimitLemmas.{put-limit}
use Rattle.btree_range_map.proofs.ListLemmas.{get-set, get-set-other, set-back}
use Rattle.btree_range_map.proofs.PlaceLemmas.{less-from}
use Rattle.btree_range_map.proofs.RunLemmas.{run-at, value-here}
use Rattle.btree_range_map.proofs.StepLemmas.{IsSameOutside, clear-part, left-part, shorter-runs}
use Rattle.btree_range_map.proofs.TrimLemmas.{trim-apart, trim-back, trim-back-fits, trim-item, trim-length, trim-listed, trim-pairs, trim-runs, trim-same}

module _ {V : Type 0} where
  -- ---- steps before and after
  -- a step before changed values of these numbers alone, and added no range
  pub assigns-after : (s mid new : TreeState ℕ (Span V)) (start : ℕ) (span : Span V) → IsSameOutside (pairs_of s) start span.end (pairs_of mid) → length (pairs_of mid) ≡ length (pairs_of s) → mid.kept ≡ s.kept
      → Assigns mid new start span → Assigns s new start span
  assigns-after s mid new start span same count kept a =
      let limit = ap (λ k. k.limit) kept in
      record {
        assigned = assigned-after (pairs_of s) (pairs_of mid) (pairs_of new) start span.end span.value same a.assigned;
        runs = a.runs;
        uncounted = a.uncounted ∙ kept;
        bounded = λ more. let b = a.bounded (omega (arith, more, count)) in omega (arith, b, limit);
      }

  -- more numbers, which had the value, were given it again
  pub assigns-wider : (s new : TreeState ℕ (Span V)) (start first : ℕ) (span wide : Span V) → wide.value ≡ span.value → first ≤ start → span.end ≤ wide.end
      → ((n : ℕ) → first ≤ n → n < wide.end → (n < start) ⊎ (span.end ≤ n) → value_at (pairs_of s) n ≡ Some span.value)
      → Assigns s new first wide → Assigns s new start span
  assigns-wider s new start first span wide value low high had a = record {
    assigned = assigned-wider (pairs_of s) (pairs_of new) start span.end first wide.end span.value low high had
        (subst (λ v. IsAssigned (pairs_of s) first wide.end v (pairs_of new)) value a.assigned);
    runs = a.runs;
    uncounted = a.uncounted;
    bounded = a.bounded;
  }

  -- what was changed before a refusal was given back after it
  pub refused-back : (s mid late new : TreeState ℕ (Span V)) (cause : RangeCause) → pairs_of new ≡ pairs_of s → length (pairs_of mid) ≡ length (pairs_of s) → mid.kept ≡ s.kept → new.kept ≡ late.kept
      → IsRefusedIn mid late 1 cause → IsRefusedIn s new 1 cause
  refused-back s mid late new cause pairs count kept_mid kept_new is = record { ranges = pairs; counts = by cause is.counts } where
    by : (cause : RangeCause) → state.CountsRefusal (ranges_of mid) (ranges_of late) 1 cause → state.CountsRefusal (ranges_of s) (ranges_of new) 1 cause
    by Store counts =
        let limit = ap (λ k. k.limit) kept_mid in
        let below = counts.1 in
        (kept_new ∙ counts.0 ∙ ap (λ k. refused_once k) kept_mid, omega (arith, below, count, limit))
    by Count counts =
        let limit = ap (λ k. k.limit) kept_mid in
        let reached = counts.1 in
        (kept_new ∙ counts.0 ∙ kept_mid, omega (arith, reached, count, limit))
    by Clone counts = absurd counts

-- ---- between others, or in place of the next one
module _ {V : Type 0} (s : TreeState ℕ (Span V)) (at : Address) (start : ℕ) (span : Span V) (can : CanPut s at start span) where
  pub put-fits : IsApart (pairs_of s) can.here.place span → FitsAt nat_cmp start s at
  put-fits apart = record {
    place = can.here.place;
    has = can.here.has;
    fits = record {
      within = can.here.within;
      above = λ q x next at. less-from x.0 start (can.here.below q x next at);
      below = λ x at. let low = apart.starts x at in let some = can.some in less-from start x.0 (omega (arith, low, some));
    };
  }

  pub put-done : IsApart (pairs_of s) can.here.place span → (new : TreeState ℕ (Span V)) (b : Address) → InsertsAt s new at nat_cmp b (start, span) → Assigns s new start span
  put-done apart new b puts =
      let place = can.here.place in
      let same : puts.place ≡ place = can.here.has.only puts.place puts.has.at in
      let pairs : pairs_of new ≡ insert (pairs_of s) place (start, span) = puts.pairs ∙ ap (λ p. insert (pairs_of s) p (start, span)) same in
      let P : List (ℕ × Span V) → Type 0 = AreRuns in
      record {
        assigned = λ n. ap (λ xs. value_at xs n) pairs ∙ put-assigned (pairs_of s) place start span can.runs can.here.within can.some can.ends can.differ apart n;
        runs = subst P (sym pairs) (put-runs (pairs_of s) place start span can.runs can.here.within can.some can.ends can.differ apart);
        uncounted = puts.inserted.uncounted;
        bounded = λ more. put-limit s new at b place (start, span) can.here.has can.here.within puts;
      }

  -- the range before the place does not join
  before : (q : ℕ) (x : ℕ × Span V) → suc q ≡ can.here.place → slice_get (pairs_of s) q ≡ Some x → (x.0 < start) × (x.1.value ≡ span.value → x.1.end < start)
  before q x next at =
      let end = can.ends q x next at in
      let differ = can.differ q x next at in
      (can.here.below q x next at, λ value. by end (λ touch. differ touch value) (cases_lt x.1.end start))
    where
      by : x.1.end ≤ start → (x.1.end ≡ start → ⊥) → (x.1.end < start) ⊎ (start ≤ x.1.end) → x.1.end < start
      by le touch (inl lt) = lt
      by le touch (inr ge) = absurd (touch (omega (arith, le, ge)))

  pub put-none : IsApart (pairs_of s) can.here.place span → JoinsNone (pairs_of s) start span.end span.value
  put-none apart =
      joins-none (pairs_of s) can.here.place start span.end span.value can.runs can.some before
      (λ x at.
      let low = apart.starts x at in
      let some = run-at 0 (pairs_of s) can.here.place x can.runs.ascend at in
      let differ = apart.differ x at in
      (omega (arith, low, some.1), λ value. by x low (λ touch. differ touch (sym value)) (cases_lt span.end x.0)))
      can.here.within
    where
      by : (x : ℕ × Span V) → span.end ≤ x.0 → (span.end ≡ x.0 → ⊥) → (span.end < x.0) ⊎ (x.0 ≤ span.end) → span.end < x.0
      by x le touch (inl lt) = lt
      by x le touch (inr ge) = absurd (touch (omega (arith, le, ge)))

  -- the next range is taken in
  module _ (next : Address) (end : ℕ) (o : Absorbs s can.here.place span next end) where
    pub put-absorbs : CanAbsorb s next start (span_to end span)
    put-absorbs = record {
      place = can.here.place;
      range = o.range;
      item = o.item;
      listed = o.listed;
      starts = can.here.starts o.range o.listed;
      within = o.within;
      ends = can.ends;
      differ = can.differ;
      runs = can.runs;
    }

    pub put-absorbed : (new : TreeState ℕ (Span V)) → Assigns s new start (span_to end span) → Assigns s new start span
    put-absorbed new a =
        assigns-wider s new start start span (span_to end span) refl (omega arith) o.wider had a
      where
        had : (n : ℕ) → start ≤ n → n < end → (n < start) ⊎ (span.end ≤ n) → value_at (pairs_of s) n ≡ Some span.value
        had n from up (inl below) = absurd (omega (arith, from, below))
        had n from up (inr above) =
            let j = o.joins (omega (arith, above, up)) in
            value-here 0 (pairs_of s) can.here.place o.range can.runs.ascend o.listed n (between-from o.range.0 o.range.1.end n (omega (arith, j.1, above)) (omega (arith, j.2, up)))
            ∙ ap (λ v. Some v) j.0

  -- ---- the next range overlaps it
  module _ (next : Address) (rest : Span V) (o : Overlaps s can.here.place span next rest) where
    pub put-none-over : JoinsNone (pairs_of s) start span.end span.value
    put-none-over =
        joins-none (pairs_of s) can.here.place start span.end span.value can.runs can.some before
        (λ x at.
        let same = same_Some _ _ (sym o.listed ∙ at) in
        let end = ap (λ (z : ℕ × Span V). z.1.end) same in
        let was = ap (λ (z : ℕ × Span V). z.1.value) same in
        let past = o.past in
        (omega (arith, end, past), λ value. absurd (o.differ (was ∙ value))))
        can.here.within

    low : start ≤ o.first
    low = can.here.starts (o.first, rest) o.listed

    module _ (mid : TreeState ℕ (Span V)) (is : IsExchanged s mid next nat_cmp (span.end, rest)) where
      pub pairs : pairs_of mid ≡ set (pairs_of s) can.here.place (span.end, rest)
      pairs = trim-pairs s can.here.place span rest next o can.runs mid is

      pub count : length (pairs_of mid) ≡ length (pairs_of s)
      count = trim-length s can.here.place span rest next o can.runs mid is

      pub other : (q : ℕ) → suc q ≡ can.here.place → slice_get (pairs_of mid) q ≡ slice_get (pairs_of s) q
      other q lt = ap (λ ys. slice_get ys q) pairs ∙ get-set-other (pairs_of s) can.here.place q (span.end, rest) (λ i. omega (arith, i, lt))

      abbrev pub apart : IsApart (pairs_of mid) can.here.place span
      apart = trim-apart s can.here.place span rest next o can.runs mid is

      abbrev pub trimmed-can : CanPut mid at start span
      trimmed-can =
          let c = count in
          let within = can.here.within in
          let some = can.some in
          record {
            some = can.some;
            here = record {
              valid = is.keeps.valid at can.here.valid;
              back = can.here.back;
              place = can.here.place;
              has = kept-place s mid next (span.end, rest) is at can.here.place can.here.has;
              within = omega (arith, within, c);
              below = λ q x lt there. can.here.below q x lt (sym (other q lt) ∙ there);
              starts = λ x there. let from = apart.starts x there in omega (arith, from, some);
            };
            ends = λ q x lt there. can.ends q x lt (sym (other q lt) ∙ there);
            differ = λ q x lt there. can.differ q x lt (sym (other q lt) ∙ there);
            runs = trim-runs s can.here.place span rest next o can.runs mid is;
          }

      pub trimmed-done : (new : TreeState ℕ (Span V)) → Assigns mid new start span → Assigns s new start span
      trimmed-done new a =
          let l = low in
          assigns-after s mid new start span (trim-same s can.here.place span rest next o can.runs mid is start l can.some) count is.uncounted a

      module _ (late : TreeState ℕ (Span V)) (MayRefuse : Content (Node ℕ (Span V)) → Type 0) (cause : Cause) (refused : IsRefusedAt mid late at MayRefuse cause) where
        late-item : IsItemAddress late can.here.place next
        late-item = refused-keeps mid late at MayRefuse cause refused can.here.place next (trim-item s can.here.place span rest next o can.runs mid is)

        pub trimmed-back : ReplacesAt nat_cmp o.first late next
        trimmed-back = trim-back-fits s can.here.place span rest next o can.runs mid is late refused.leaves.pairs late-item

        pub trimmed-item : item_of late next ≡ Some (span.end, rest)
        trimmed-item =
            late-item.item ∙ ap (λ xs. slice_get xs can.here.place) refused.leaves.pairs
            ∙ trim-listed s can.here.place span rest next o can.runs mid is

        module _ (new : TreeState ℕ (Span V)) (back : IsExchanged late new next nat_cmp (o.first, rest)) where
          pub trimmed-refused : IsRefusedIn s new 1 (by_node cause)
          trimmed-refused =
              refused-back s mid late new (by_node cause) (trim-back s can.here.place span rest next o can.runs mid is late refused.leaves.pairs late-item new back)
              count is.uncounted back.uncounted (refused-one mid late at MayRefuse cause refused)

          pub trimmed-keeps : KeepsBefore s new at
          trimmed-keeps p b has here =
              let far : p ≡ can.here.place → ⊥ = λ e. let i = can.here.has.only (suc p) has.at in omega (arith, e, i) in
              kept-item late new next (o.first, rest) back b can.here.place p late-item.has
              (refused-keeps mid late at MayRefuse cause refused p b (kept-item s mid next (span.end, rest) is b can.here.place p o.item.has here far)) far

-- ---- the range before it is overlapped
module _ {V : Type 0} (s : TreeState ℕ (Span V)) (at b : Address) (start : ℕ) (span : Span V) (end : ℕ) (can : CanPutOver s at b start span end) where
  abbrev last : Span V
  last = can.last

  abbrev whole : ℕ × Span V
  whole = (can.first, last)

  abbrev short : ℕ × Span V
  short = (can.first, record { end = start; value = last.value })

  within : can.place < length (pairs_of s)
  within = slice_get_within (pairs_of s) can.place whole can.listed

  left : can.first < start
  left = can.here.below can.place whole can.next can.listed

  some : start < span.end
  some = let cuts = can.cuts in let high = can.within in omega (arith, cuts, high)

  short-runs : AreRuns (set (pairs_of s) can.place short)
  short-runs = shorter-runs (pairs_of s) can.place start whole short can.runs can.listed refl refl refl left can.cuts

  -- it was given the end `start`
  module _ (mid : TreeState ℕ (Span V)) (sets : SetsEnd s mid b start) where
    abbrev e : IsValueExchanged s mid b nat_cmp last (record { end = start; value = last.value })
    e = sets-end s mid b start whole (can.item.item ∙ can.listed) sets

    short-pairs : pairs_of mid ≡ set (pairs_of s) can.place short
    short-pairs = value-list nat_cmp s mid b can.place last (record { end = start; value = last.value }) whole can.item can.listed e

    short-count : length (pairs_of mid) ≡ length (pairs_of s)
    short-count = ap length short-pairs ∙ length-set (pairs_of s) can.place short

    short-here : slice_get (pairs_of mid) can.place ≡ Some short
    short-here = ap (λ xs. slice_get xs can.place) short-pairs ∙ get-set (pairs_of s) can.place short within

    short-other : (q : ℕ) → (q ≡ can.place → ⊥) → slice_get (pairs_of mid) q ≡ slice_get (pairs_of s) q
    short-other q differs = ap (λ ys. slice_get ys q) short-pairs ∙ get-set-other (pairs_of s) can.place q short differs

    short-before : (q : ℕ) (x : ℕ × Span V) → suc q ≡ can.here.place → slice_get (pairs_of mid) q ≡ Some x → x ≡ short
    short-before q x lt there =
        let next = can.next in
        let same : q ≡ can.place = omega (arith, lt, next) in
        same_Some _ _ (sym there ∙ ap (slice_get (pairs_of mid)) same ∙ short-here)

    pub over-can : CanPut mid at start span
    over-can =
        let c = short-count in
        let room = can.here.within in
        let l = left in
        let P : List (ℕ × Span V) → Type 0 = AreRuns in
        record {
          some = some;
          here = record {
            valid = e.exchanged.keeps.valid at can.here.valid;
            back = can.here.back;
            place = can.here.place;
            has = kept-place s mid b (e.key, record { end = start; value = last.value }) e.exchanged at can.here.place can.here.has;
            within = omega (arith, room, c);
            below = λ q x lt there. let first = ap (λ (z : ℕ × Span V). z.0) (short-before q x lt there) in omega (arith, first, l);
            starts = λ x there. let next = can.next in can.here.starts x (sym (short-other can.here.place (λ i. omega (arith, i, next))) ∙ there);
          };
          ends = λ q x lt there. let end = ap (λ (z : ℕ × Span V). z.1.end) (short-before q x lt there) in omega (arith, end);
          differ = λ q x lt there touch value. can.differ (sym (ap (λ (z : ℕ × Span V). z.1.value) (short-before q x lt there)) ∙ value);
          runs = subst P (sym short-pairs) short-runs;
        }

    pub over-done : (new : TreeState ℕ (Span V)) → Assigns mid new start span → Assigns s new start span
    over-done new a =
        let outside : IsSameOutside (pairs_of s) start span.end (pairs_of mid) =
        subst (λ xs. IsSameOutside (pairs_of s) start span.end xs) (sym short-pairs)
        (clear-part (pairs_of s) (pairs_of s) can.place start span.end whole short can.runs short-runs can.listed refl (left-part start span.end whole some can.cuts can.within) (λ n out. refl)) in
        assigns-after s mid new start span outside short-count e.exchanged.uncounted a

    pub over-none : JoinsNone (pairs_of mid) start span.end span.value → JoinsNone (pairs_of s) start span.end span.value
    over-none none = record {
      some = none.some;
      none_inside = λ q x there. by-place q x there
          (λ x_is. inl (let l = left in let first = ap (λ (z : ℕ × Span V). z.0) x_is in omega (arith, l, first)))
          (λ far. none.none_inside q x (short-other q far ∙ there));
      none_joined = λ q x there value. by-place q x there
          (λ x_is. absurd (can.differ (sym (ap (λ (z : ℕ × Span V). z.1.value) x_is) ∙ value)))
          (λ far. none.none_joined q x (short-other q far ∙ there) value);
    }
      where
        by-place : {R : Type 0} (q : ℕ) (x : ℕ × Span V) → slice_get (pairs_of s) q ≡ Some x → (x ≡ whole → R) → ((q ≡ can.place → ⊥) → R) → R
        by-place q x there near far = elim (cases_order q can.place) [
          | inl same ↦ near (same_Some _ _ (sym there ∙ ap (slice_get (pairs_of s)) same ∙ can.listed))
          | inr differs ↦ far (λ i. elim differs [ inl lt ↦ omega (arith, lt, i) | inr gt ↦ omega (arith, gt, i) ])
        ]

    module _ (late : TreeState ℕ (Span V)) (cause : RangeCause) (refused : IsRefusedIn mid late 1 cause) (keeps : KeepsBefore mid late at) where
      pub over-item : IsItemAddress late can.place b
      over-item =
          keeps can.place b
          (subst (λ p. HasPlace mid at p) (sym can.next) (kept-place s mid b (e.key, record { end = start; value = last.value }) e.exchanged at can.here.place can.here.has))
          (kept-here s mid b (e.key, record { end = start; value = last.value }) e.exchanged can.place can.item.has)

      pub over-refused : (new : TreeState ℕ (Span V)) → SetsEnd late new b end → IsRefusedIn s new 1 cause
      over-refused new sets =
          let late_pairs : pairs_of late ≡ pairs_of mid = refused.ranges in
          let is_last : ◌≡◌ {A = Span V} (record { end = end; value = last.value }) last = λ i. record { end = sym can.ends i; value = last.value } in
          let back : IsValueExchanged late new b nat_cmp short.1 last =
          subst (λ (z : Span V). IsValueExchanged late new b nat_cmp short.1 z) is_last
          (sets-end late new b end short (over-item.item ∙ ap (λ xs. slice_get xs can.place) late_pairs ∙ short-here) sets) in
          let final : pairs_of new ≡ pairs_of s =
          value-list nat_cmp late new b can.place short.1 last short over-item (ap (λ xs. slice_get xs can.place) late_pairs ∙ short-here) back
          ∙ ap (λ xs. set xs can.place whole) (late_pairs ∙ short-pairs)
          ∙ set-back (pairs_of s) can.place short whole can.listed in
          refused-back s mid late new cause final short-count e.exchanged.uncounted back.exchanged.uncounted refused
