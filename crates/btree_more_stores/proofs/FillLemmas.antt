-- What an `insert_under` keeps of the places of a `FixedSlab` (`IsTable`).
use Rattle.std.proofs.Common.{◌≡◌, ℕ, ◌+◌, ◌<◌, List, [], ◌∷◌, ◌++◌, length, get_or, set, Option, Some, None, is_some, cond, refl, sym, ap, ◌∙◌, inl, inr, arith, length-append, length-set}
use Rattle.std.proofs.lemmas.Bool.{cases_eq}
use Rattle.std.proofs.lemmas.List.{get_or-set_other, get_or_append_left, get_or_push}
use Rattle.std.proofs.lemmas.List.Sums.{sum_by-set}
use Rattle.btree_more_stores.specs.Table.{IsTable}

module _ {T : Type 0} (places : ℕ) (slots : List (Option T)) (free : List ℕ) (fresh held : ℕ) (room : fresh < places) (table : IsTable places slots free fresh held) where
  -- the next place is listed as free
  pub table-skip : IsTable places slots (free ++ fresh ∷ []) (fresh + 1) held
  table-skip =
      let longer : length (free ++ fresh ∷ []) ≡ length free + 1 = length-append free (fresh ∷ []) in
      let last : get_or (free ++ fresh ∷ []) (length free) 0 ≡ fresh = get_or_push free fresh 0 (length free) refl in
      let early : (j : ℕ) → j < length free → get_or (free ++ fresh ∷ []) j 0 ≡ get_or free j 0 = λ j h. get_or_append_left free (fresh ∷ []) 0 j h in
      let low : (j : ℕ) → j < length free → get_or free j 0 < fresh = λ j h. table.below j h in
      record {
        long = table.long;
        counted = table.counted;
        total = omega (arith, table.total);
        within = omega arith;
        below = λ j h. elim (cases_eq j (length free)) [
          | inl same ↦ rw (same, last) (omega arith)
          | inr other ↦ let small : j < length free = omega arith in rw (early j small) (omega (arith, low j small))
        ];
        vacant = λ j h. elim (cases_eq j (length free)) [
          | inl same ↦ rw (same, last) (table.beyond fresh (omega arith))
          | inr other ↦ let small : j < length free = omega arith in rw (early j small) (table.vacant j small)
        ];
        apart = λ i j less h e. elim (cases_eq j (length free)) [
          | inl same ↦
              let small : i < length free = omega arith in
              let is : get_or free i 0 ≡ fresh = sym (early i small) ∙ e ∙ ap (λ (k : ℕ). get_or (free ++ fresh ∷ []) k 0) same ∙ last in
              omega (arith, low i small)
          | inr other ↦ let small : j < length free = omega arith in table.apart i j less small (sym (early i (omega arith)) ∙ e ∙ early j small)
        ];
        beyond = λ place h. table.beyond place (omega arith);
      }

  -- the next place is filled
  pub table-next : (v : T) → IsTable places (set slots fresh (Some v)) free (fresh + 1) (held + 1)
  table-next v =
      let none : ◌≡◌ {A = ℕ} (cond (is_some (get_or slots fresh None)) 1 0) 0 = rw (table.beyond fresh (omega arith)) refl in
      let more = sum_by-set (λ slot. cond (is_some slot) 1 0) slots fresh (Some v) None (omega (arith, table.long)) in
      record {
        long = length-set slots fresh (Some v) ∙ table.long;
        counted = omega (arith, table.counted, more, none);
        total = omega (arith, table.total);
        within = omega arith;
        below = λ j h. omega (arith, table.below j h);
        vacant = λ j h. get_or-set_other slots fresh (get_or free j 0) (Some v) None (λ e. omega (arith, table.below j h)) ∙ table.vacant j h;
        apart = table.apart;
        beyond = λ place h. get_or-set_other slots fresh place (Some v) None (λ e. omega arith) ∙ table.beyond place (omega arith);
      }

  -- the next place can be listed as free
  pub free-room : length free < places
  free-room = omega (arith, table.total)
