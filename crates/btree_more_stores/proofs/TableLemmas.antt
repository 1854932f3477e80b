-- What the calls of a `FixedSlab` keep of its places (`IsTable`).
use Rattle.std.proofs.Common.{◌≡◌, ◌≢◌, ℕ, ◌+◌, ◌-◌, ◌<◌, ◌≤◌, cond, List, [], ◌∷◌, ◌++◌, length, get_or, set, Option, Some, None, is_some, IsSome, count_by, refl, sym, ap, ◌∙◌, inl, inr, arith, length-append, length-set}
use Rattle.std.proofs.lemmas.Bool.{cases_eq, cases_lt}
use Rattle.std.proofs.lemmas.List.{get_or-set_same, get_or-set_other, get_or_past, get_or_append_left, get_or_push}
use Rattle.std.proofs.lemmas.List.Sums.{sum_by-set}
use Rattle.std.specs.Array.{AllOfLen}
use Rattle.std.specs.Ordering.{nat_cmp}
use Rattle.std.specs.FinMap.{len, len-empty}
use Rattle.btree_store.specs.SlotLaws.{len-content}
use Rattle.btree_more_stores.proofs.SlotLemmas.{content-none}
use Rattle.btree_store.specs.Content.{content_from}
use Rattle.btree_more_stores.specs.Table.{IsTable}

-- 1 for a value, 0 for none
abbrev one : {T : Type 0} → Option T → ℕ
one slot = cond (is_some slot) 1 0

module _ {T : Type 0} (places : ℕ) (slots : List (Option T)) where
  -- a vacant place is filled
  filled : (k : ℕ) (v : T) → k < length slots → get_or slots k None ≡ None → count_by is_some (set slots k (Some v)) ≡ count_by is_some slots + 1
  filled k v inside none =
      let was : one (get_or slots k None) ≡ 0 = rw none refl in
      omega (arith, sum_by-set one slots k (Some v) None inside, was)

  emptied : (k : ℕ) (v : T) → k < length slots → get_or slots k None ≡ Some v → count_by is_some (set slots k None) + 1 ≡ count_by is_some slots
  emptied k v inside some =
      let was : one (get_or slots k None) ≡ 1 = rw some refl in
      omega (arith, sum_by-set one slots k None None inside, was)

  rewritten : (k : ℕ) (v w : T) → k < length slots → get_or slots k None ≡ Some v → count_by is_some (set slots k (Some w)) ≡ count_by is_some slots
  rewritten k v w inside some =
      let was : one (get_or slots k None) ≡ 1 = rw some refl in
      omega (arith, sum_by-set one slots k (Some w) None inside, was)

  pub used_within : (k : ℕ) (v : T) → get_or slots k None ≡ Some v → k < length slots
  used_within k v some = grind (arith, get_or_past)

  -- a used place is counted
  pub table-used : (free : List ℕ) (id fresh held : ℕ) (v : T) → get_or slots id None ≡ Some v → IsTable places slots free fresh held → 0 < held
  table-used free id fresh held v some table = omega (arith, table.counted, emptied id v (used_within id v some) some)

  used_fresh : (free : List ℕ) (fresh held : ℕ) → IsTable places slots free fresh held → (k : ℕ) (v : T) → get_or slots k None ≡ Some v → k < fresh
  used_fresh free fresh held table k v some = let far = table.beyond k in grind (arith, far)

  -- the last free place is filled
  pub table-refill : (rest : List ℕ) (id fresh held : ℕ) (v : T) → IsTable places slots (rest ++ id ∷ []) fresh held → IsTable places (set slots id (Some v)) rest fresh (held + 1)
  table-refill rest id fresh held v table =
      let free = rest ++ id ∷ [] in
      let long : length free ≡ length rest + 1 = length-append rest (id ∷ []) in
      let last : get_or free (length rest) 0 ≡ id = get_or_push rest id 0 (length rest) refl in
      let early : (j : ℕ) → j < length rest → get_or free j 0 ≡ get_or rest j 0 = λ j h. get_or_append_left rest (id ∷ []) 0 j h in
      let low : id < fresh = rw last at (table.below (length rest) (omega arith)) in
      let none : get_or slots id None ≡ None = rw last at (table.vacant (length rest) (omega arith)) in
      let inside : id < length slots = omega (arith, table.long, table.within) in
      let differs : (j : ℕ) → j < length rest → get_or rest j 0 ≢ id = λ j h e. table.apart j (length rest) h (omega arith) (early j h ∙ e ∙ sym last) in
      record {
        long = length-set slots id (Some v) ∙ table.long;
        counted = omega (arith, table.counted, filled id v inside none);
        total = omega (arith, table.total);
        within = table.within;
        below = λ j h. rw early at (table.below j (omega arith));
        vacant = λ j h. get_or-set_other slots id (get_or rest j 0) (Some v) None (differs j h) ∙ (rw early at (table.vacant j (omega arith)));
        apart = λ i j less h e. table.apart i j less (omega arith) (early i (omega arith) ∙ e ∙ sym (early j h));
        beyond = λ k h. get_or-set_other slots id k (Some v) None (λ e. omega arith) ∙ table.beyond k h;
      }

  pub table-low : (rest : List ℕ) (id fresh held : ℕ) → IsTable places slots (rest ++ id ∷ []) fresh held → id < length slots
  table-low rest id fresh held table =
      let long : length (rest ++ id ∷ []) ≡ length rest + 1 = length-append rest (id ∷ []) in
      let last : get_or (rest ++ id ∷ []) (length rest) 0 ≡ id = get_or_push rest id 0 (length rest) refl in
      let low : id < fresh = rw last at (table.below (length rest) (omega arith)) in
      omega (arith, table.long, table.within)

  pub table-vacant : (rest : List ℕ) (id fresh held : ℕ) → IsTable places slots (rest ++ id ∷ []) fresh held → get_or slots id None ≡ None
  table-vacant rest id fresh held table =
      let long : length (rest ++ id ∷ []) ≡ length rest + 1 = length-append rest (id ∷ []) in
      let last : get_or (rest ++ id ∷ []) (length rest) 0 ≡ id = get_or_push rest id 0 (length rest) refl in
      rw last at (table.vacant (length rest) (omega arith))

  pub table-holds : (free : List ℕ) (fresh held : ℕ) → IsTable places slots free fresh held → len (content_from 0 slots) ≤ places
  table-holds free fresh held table = omega (arith, len-content slots, table.counted, table.total, table.within)

  -- no place is free, so that each has a value
  pub table-full : (free : List ℕ) (fresh held : ℕ) → length free ≡ 0 → places ≤ fresh → IsTable places slots free fresh held → len (content_from 0 slots) ≡ places
  table-full free fresh held none last table = omega (arith, len-content slots, table.counted, table.total, table.within)

  -- no place was ever used
  pub table-new : length slots ≡ places → ((q : ℕ) → get_or slots q None ≡ None) → IsTable places slots [] 0 0
  table-new long none =
      let nothing : count_by is_some slots ≡ 0 = sym (len-content slots) ∙ ap len (content-none slots none) ∙ len-empty nat_cmp T in
      record {
        long = long;
        counted = sym nothing;
        total = refl;
        within = omega arith;
        below = λ j h. absurd (omega arith);
        vacant = λ j h. absurd (omega arith);
        apart = λ i j less h e. omega arith;
        beyond = λ k h. none k;
      }

  pub all-none : (n : ℕ) → AllOfLen (λ o. o ≡ None) slots n → (q : ℕ) → get_or slots q None ≡ None
  all-none n all q = elim (cases_lt q (length slots)) [
    | inl inside ↦ all.at q None (omega (arith, all.long))
    | inr past ↦ get_or_past slots q None (omega arith)
  ]

  -- the first place that was never used is filled
  pub table-fresh : (free : List ℕ) (fresh held : ℕ) (v : T) → fresh < places → length free ≡ 0 → IsTable places slots free fresh held → IsTable places (set slots fresh (Some v)) free (fresh + 1) (held + 1)
  table-fresh free fresh held v room none table =
      let inside : fresh < length slots = omega (arith, table.long) in
      record {
        long = length-set slots fresh (Some v) ∙ table.long;
        counted = omega (arith, table.counted, filled fresh v inside (table.beyond fresh (omega arith)));
        total = omega (arith, table.total);
        within = omega arith;
        below = λ j h. absurd (omega arith);
        vacant = λ j h. absurd (omega arith);
        apart = λ i j less h e. omega arith;
        beyond = λ k h. get_or-set_other slots fresh k (Some v) None (λ e. omega arith) ∙ table.beyond k (omega arith);
      }

  -- a used place is emptied, and listed
  pub table-remove : (free : List ℕ) (id fresh held : ℕ) (v : T) → get_or slots id None ≡ Some v → IsTable places slots free fresh held → IsTable places (set slots id None) (free ++ id ∷ []) fresh (held - 1)
  table-remove free id fresh held v some table =
      let long : length (free ++ id ∷ []) ≡ length free + 1 = length-append free (id ∷ []) in
      let last : get_or (free ++ id ∷ []) (length free) 0 ≡ id = get_or_push free id 0 (length free) refl in
      let early : (j : ℕ) → j < length free → get_or (free ++ id ∷ []) j 0 ≡ get_or free j 0 = λ j h. get_or_append_left free (id ∷ []) 0 j h in
      let inside : id < length slots = used_within id v some in
      let low : id < fresh = used_fresh free fresh held table id v some in
      let fewer = emptied id v inside some in
      let emptied_at : (k : ℕ) → get_or slots k None ≡ None → get_or (set slots id None) k None ≡ None = λ k none. elim (cases_eq k id) [
        | inl same ↦ ap (λ (i : ℕ). get_or (set slots id None) i None) same ∙ get_or-set_same slots id None None inside
        | inr other ↦ get_or-set_other slots id k None None other ∙ none
      ] in
      record {
        long = length-set slots id None ∙ table.long;
        counted = omega (arith, table.counted);
        total = omega (arith, table.total, table.counted);
        within = table.within;
        below = λ j h. elim (cases_eq j (length free)) [
          | inl same ↦ rw (same, last) low
          | inr other ↦ let small : j < length free = omega arith in rw (early j small) (table.below j small)
        ];
        vacant = λ j h. elim (cases_eq j (length free)) [
          | inl same ↦ rw (same, last) (get_or-set_same slots id None None inside)
          | inr other ↦ let small : j < length free = omega arith in rw (early j small) (emptied_at _ (table.vacant j small))
        ];
        apart = λ i j less h e. elim (cases_eq j (length free)) [
          | inl same ↦
              let first : i < length free = omega arith in
              let is : get_or free i 0 ≡ id = sym (early i first) ∙ e ∙ ap (λ (k : ℕ). get_or (free ++ id ∷ []) k 0) same ∙ last in
              let none = table.vacant i first in
              let both : Some v ≡ None = sym some ∙ ap (λ (k : ℕ). get_or slots k None) (sym is) ∙ none in
              absurd (cc)
          | inr other ↦ let small : j < length free = omega arith in table.apart i j less small (sym (early i (omega arith)) ∙ e ∙ early j small)
        ];
        beyond = λ k h. emptied_at k (table.beyond k h);
      }

  -- a used place is written
  pub table-write : (free : List ℕ) (id fresh held : ℕ) (w : T) → IsSome (get_or slots id None) → IsTable places slots free fresh held → IsTable places (set slots id (Some w)) free fresh held
  table-write free id fresh held w used table = by_value (get_or slots id None) refl used
    where
      by_value : (o : Option T) → get_or slots id None ≡ o → IsSome o → IsTable places (set slots id (Some w)) free fresh held
      by_value None some used = absurd (cc)
      by_value (Some v) some used =
          let inside : id < length slots = used_within id v some in
          let low : id < fresh = used_fresh free fresh held table id v some in
          record {
            long = length-set slots id (Some w) ∙ table.long;
            counted = omega (arith, table.counted, rewritten id v w inside some);
            total = table.total;
            within = table.within;
            below = table.below;
            vacant = λ j h.
                let none = table.vacant j h in
                get_or-set_other slots id (get_or free j 0) (Some w) None (λ e. let both : Some v ≡ None = sym some ∙ ap (λ (k : ℕ). get_or slots k None) (sym e) ∙ none in absurd (cc)) ∙ none;
            apart = table.apart;
            beyond = λ k h. get_or-set_other slots id k (Some w) None (λ e. omega arith) ∙ table.beyond k h;
          }
