-- What the calls of a `SlotStore` keep of its places (`IsFilled`).
use Rattle.std.proofs.Common.{◌≡◌, ◌≢◌, ℕ, ◌+◌, ◌-◌, ◌<◌, ◌≤◌, List, [], ◌∷◌, ◌++◌, length, get_or, set, Option, Some, None, is_some, cond, refl, sym, ap, subst, ◌∙◌, inl, inr, arith, length-append, length-set}
use Rattle.std.proofs.lemmas.Bool.{cases_eq, cases_lt}
use Rattle.std.proofs.lemmas.List.{get_or_push, get_or_append_left, get_or_past}
use Rattle.std.proofs.lemmas.List.Sums.{sum_by-append}
use Rattle.std.specs.FinMap.{insert}
use Rattle.btree_store.specs.Content.{content_from}
use Rattle.btree_store.specs.ContentLaws.{same_content}
use Rattle.btree_store.specs.SlotLaws.{content-insert, get-content}
use Rattle.btree_more_stores.proofs.TableLemmas.{table-refill, table-vacant, table-remove}
use Rattle.btree_more_stores.specs.Table.{IsTable}
use Rattle.btree_more_stores.specs.Filled.{IsFilled, IsFull}

module _ {T : Type 0} (slots : List (Option T)) where
  -- the other places after one more
  other_place : (x : Option T) (q : ℕ) → q ≢ length slots → get_or (slots ++ x ∷ []) q None ≡ get_or slots q None
  other_place x q differs = elim (cases_lt q (length slots)) [
    | inl inside ↦ get_or_append_left slots (x ∷ []) None q inside
    | inr past ↦
        let long : length (slots ++ x ∷ []) ≡ length slots + 1 = length-append slots (x ∷ []) in
        get_or_past (slots ++ x ∷ []) q None (omega arith) ∙ sym (get_or_past slots q None past)
  ]

  last_place : (x : Option T) → get_or (slots ++ x ∷ []) (length slots) None ≡ x
  last_place x = get_or_push slots x None (length slots) refl

  -- a place more, with a value
  pub content-push : (place : ℕ) → length slots ≡ place → (v : T) → content_from 0 (slots ++ Some v ∷ []) ≡ insert (content_from 0 slots) place v
  content-push place is v = rw (← is) (content-insert slots (slots ++ Some v ∷ []) (length slots) v (last_place (Some v)) (other_place (Some v)))

  same_place : (q : ℕ) → get_or (slots ++ None ∷ []) q None ≡ get_or slots q None
  same_place q = elim (cases_eq q (length slots)) [
    | inl same ↦ ap (λ (k : ℕ). get_or (slots ++ None ∷ []) k None) same ∙ last_place None ∙ sym (get_or_past slots q None (omega arith))
    | inr differs ↦ other_place None q differs
  ]

  -- a place more, without one
  pub content-push_none : content_from 0 (slots ++ None ∷ []) ≡ content_from 0 slots
  content-push_none = same_content _ _ (λ q. get-content (slots ++ None ∷ []) q ∙ same_place q ∙ sym (get-content slots q))

  -- no place is past the last
  pub free-past : (id : ℕ) → length slots ≤ id → get_or slots id None ≡ None
  free-past id past = get_or_past slots id None past

  module _ (free : List ℕ) (held room : ℕ) where
    pub filled-push : (v : T) (more : ℕ) → length slots + 1 ≤ more → IsFilled slots free held room → IsFilled (slots ++ Some v ∷ []) free (held + 1) more
    filled-push v more wide filled =
        let long : length (slots ++ Some v ∷ []) ≡ length slots + 1 = length-append slots (Some v ∷ []) in
        let table = filled.table in
        record {
          table = record {
            long = refl;
            counted = omega (arith, sum_by-append (λ slot. cond (is_some slot) 1 0) slots (Some v ∷ []), table.counted);
            total = omega (arith, table.total);
            within = omega arith;
            below = λ j h. omega (arith, table.below j h);
            vacant = λ j h. other_place (Some v) (get_or free j 0) (λ e. omega (arith, table.below j h)) ∙ table.vacant j h;
            apart = table.apart;
            beyond = λ place h. get_or_past (slots ++ Some v ∷ []) place None h;
          };
          spare = omega arith;
        }

    push_none : (more : ℕ) → length slots + 1 ≤ more → IsFilled slots free held room → IsFilled (slots ++ None ∷ []) (free ++ length slots ∷ []) held more
    push_none more wide filled =
        let long : length (slots ++ None ∷ []) ≡ length slots + 1 = length-append slots (None ∷ []) in
        let table = filled.table in
        let longer : length (free ++ length slots ∷ []) ≡ length free + 1 = length-append free (length slots ∷ []) in
        let last : get_or (free ++ length slots ∷ []) (length free) 0 ≡ length slots = get_or_push free (length slots) 0 (length free) refl in
        let early : (j : ℕ) → j < length free → get_or (free ++ length slots ∷ []) j 0 ≡ get_or free j 0 = λ j h. get_or_append_left free (length slots ∷ []) 0 j h in
        let low : (j : ℕ) → j < length free → get_or free j 0 < length slots = λ j h. table.below j h in
        record {
          table = record {
            long = refl;
            counted = omega (arith, sum_by-append (λ slot. cond (is_some slot) 1 0) slots (None ∷ []), table.counted);
            total = omega (arith, table.total);
            within = omega arith;
            below = λ j h. elim (cases_eq j (length free)) [
              | inl same ↦ rw (same, last) (omega arith)
              | inr other ↦ let small : j < length free = omega arith in rw (early j small) (omega (arith, low j small))
            ];
            vacant = λ j h. same_place (get_or (free ++ length slots ∷ []) j 0) ∙ (elim (cases_eq j (length free)) [
              | inl same ↦ rw (same, last) (get_or_past slots (length slots) None (omega arith))
              | inr other ↦ let small : j < length free = omega arith in rw (early j small) (table.vacant j small)
            ]);
            apart = λ i j less h e. elim (cases_eq j (length free)) [
              | inl same ↦
                  let small : i < length free = omega arith in
                  let is : get_or free i 0 ≡ length slots = sym (early i small) ∙ e ∙ ap (λ (k : ℕ). get_or (free ++ length slots ∷ []) k 0) same ∙ last in
                  omega (arith, low i small)
              | inr other ↦ let small : j < length free = omega arith in table.apart i j less small (sym (early i (omega arith)) ∙ e ∙ early j small)
            ];
            beyond = λ place h. get_or_past (slots ++ None ∷ []) place None h;
          };
          spare = omega arith;
        }

    pub filled-push_none : (place : ℕ) → length slots ≡ place → (more : ℕ) → place + 1 ≤ more → IsFilled slots free held room → IsFilled (slots ++ None ∷ []) (free ++ place ∷ []) held more
    filled-push_none place is more wide filled =
        let enough : length slots + 1 ≤ more = omega arith in
        subst (λ (k : ℕ). IsFilled (slots ++ None ∷ []) (free ++ k ∷ []) held more) is (push_none more enough filled)

    pub filled-remove : (id : ℕ) (v : T) → get_or slots id None ≡ Some v → IsFilled slots free held room → IsFilled (set slots id None) (free ++ id ∷ []) (held - 1) room
    filled-remove id v some filled =
        let long = length-set slots id None in
        record {
          table = subst (λ (n : ℕ). IsTable n (set slots id None) (free ++ id ∷ []) n (held - 1)) (sym long) (table-remove (length slots) slots free id (length slots) held v some filled.table);
          spare = omega (arith, filled.spare);
        }

    -- where as many values are held as there are places, each has one
    pub filled-full : IsFilled slots free held room → length slots ≤ held → IsFull slots
    filled-full filled most = omega (arith, filled.table.counted, filled.table.total)

    -- more places have a value than none
    pub held-one : (id : ℕ) (v : T) → get_or slots id None ≡ Some v → IsFilled slots free held room → length free < room
    held-one id v some filled =
        let after = filled-remove id v some filled in
        let longer : length (free ++ id ∷ []) ≡ length free + 1 = length-append free (id ∷ []) in
        omega (arith, after.table.total, after.spare, length-set slots id None, filled.spare)

  -- the last free place
  module _ (free rest : List ℕ) (id : ℕ) (is : free ≡ rest ++ id ∷ []) (held room : ℕ) (filled : IsFilled slots free held room) where
    table : IsTable (length slots) slots (rest ++ id ∷ []) (length slots) held
    table = subst (λ (xs : List ℕ). IsTable (length slots) slots xs (length slots) held) is filled.table

    pub filled-refill : (v : T) → IsFilled (set slots id (Some v)) rest (held + 1) room
    filled-refill v =
        let long = length-set slots id (Some v) in
        record {
          table = subst (λ (n : ℕ). IsTable n (set slots id (Some v)) rest n (held + 1)) (sym long) (table-refill (length slots) slots rest id (length slots) held v table);
          spare = omega (arith, filled.spare);
        }

    pub refilled-vacant : get_or slots id None ≡ None
    refilled-vacant = table-vacant (length slots) slots rest id (length slots) held table

    pub refilled-inside : id < length slots
    refilled-inside =
        let longer : length (rest ++ id ∷ []) ≡ length rest + 1 = length-append rest (id ∷ []) in
        let last : get_or (rest ++ id ∷ []) (length rest) 0 ≡ id = get_or_push rest id 0 (length rest) refl in
        rw last at (table.below (length rest) (omega arith))

-- places without a value were added up to `place`, and there is room for those up to `id`
pub record Grows {T : Type 0} (old new : List (Option T)) (free : List ℕ) (held slots_space free_space place id : ℕ) : Type 0 where
  pub filled : IsFilled new free held free_space
  pub content : content_from 0 new ≡ content_from 0 old
  pub long : length new ≡ place
  pub within : place ≤ id
  pub slots_room : id < slots_space
  pub free_room : id < free_space
