-- The indices of the ends of a cursor over a range, in a list of addresses.
use Rattle.btree_map.proofs.Common.{◌≡◌, ◌∙◌, ℕ, zero, suc, ◌+◌, ◌-◌, ◌<◌, ◌≤◌, Bool, true, false, not, ◌&&◌, List, Option, Some, None, length, nat_lt, slice_get, refl, sym, ap, arith, inl, inr, cases_Bool, ltb-false, ltb-true, same_Some, slice_get_within, Address, prior, index_after, index_of}
use Rattle.std.proofs.Common.{nat_eq, ◌⊎◌}
use Rattle.std.proofs.lemmas.Bool.{cases_eq, le-ltb, lt-ltb}
use Rattle.std.proofs.lemmas.Bool.Decides.{eqb_tells}
use Rattle.std.specs.Option.{option_eq}
use Rattle.btree_item.specs.Offset.{kept_number}
use Rattle.btree_item.specs.contracts.address.AddressPartialEq.TheImpl as derived
use Rattle.btree_map.specs.SpanLaws.{at-own, same-address, same-itself}
use Rattle.btree_map.specs.Spans.{is_same}
use Rattle.btree_map.proofs.CursorLemmas.{get_none}

-- each address is in the list once
abbrev pub IsOnce : List Address → Type 0
IsOnce list = (i j : ℕ) (a : Address) → slice_get list i ≡ Some a → slice_get list j ≡ Some a → i ≡ j

kept-offset : (m n : Option ℕ) → nat_eq (kept_number m) (kept_number n) ≡ option_eq nat_eq m n
kept-offset None None = refl
kept-offset None (Some n) = elim (eqb_tells 0 (n + 1)) [
  | inl same ↦ absurd (omega (arith, same.1))
  | inr apart ↦ apart.0
]
kept-offset (Some m) None = elim (eqb_tells (m + 1) 0) [
  | inl same ↦ absurd (omega (arith, same.1))
  | inr apart ↦ apart.0
]
kept-offset (Some m) (Some n) = elim (eqb_tells (m + 1) (n + 1)) [
  | inl same ↦
      let one : m ≡ n = omega (arith, same.1) in
      elim (eqb_tells m n) [
        | inl equal ↦ same.0 ∙ sym equal.0
        | inr differs ↦ absurd (differs.1 one)
      ]
  | inr apart ↦ elim (eqb_tells m n) [
    | inl equal ↦ absurd (apart.1 (ap (λ k. k + 1) equal.1))
    | inr differs ↦ apart.0 ∙ sym differs.0
  ]
]

-- what `!=` of two options of addresses returns
pub differ-told : (o p : Option Address) → not (option_eq derived.eq-value.it o p) ≡ not (option_eq is_same o p)
differ-told o p i = not (option_eq (λ a b. nat_eq a.id b.id && kept-offset a.offset b.offset i) o p)

shifted : (m n : ℕ) → m < n → nat_lt (m + 1) n ≡ nat_lt m (n - 1)
shifted m n some = elim (cases_Bool (nat_lt m (n - 1))) [
  | inl less ↦ let low = ltb-true m (n - 1) less in lt-ltb (m + 1) n (omega arith) ∙ sym less
  | inr more ↦ let high = ltb-false m (n - 1) more in le-ltb (m + 1) n (omega arith) ∙ sym more
]

module _ (list : List Address) where
  pub back-low : (last : Option Address) → last ≡ prior list (index_after list last) → index_after list last ≤ length list
  back-low None stands = omega arith
  back-low (Some a) stands = let within = slice_get_within list (index_of list (Some a)) a (sym stands) in omega arith

  -- an end that is there is at its index
  pub own-first : (first : Option Address) (a : Address) → first ≡ Some a → first ≡ slice_get list (index_of list first) → slice_get list (index_of list (Some a)) ≡ Some a
  own-first first a is stands = ap (λ o. slice_get list (index_of list o)) (sym is) ∙ sym stands ∙ is

  pub own-last : (last : Option Address) (a : Address) → last ≡ Some a → last ≡ prior list (index_after list last) → slice_get list (index_of list (Some a)) ≡ Some a
  own-last last a is stands = ap (λ o. prior list (index_after list o)) (sym is) ∙ sym stands ∙ is

  -- an end that is not there leaves nothing
  pub none-first : (first last : Option Address) → last ≡ prior list (index_after list last) → index_of list first < index_after list last → first ≡ None → ⊥
  none-first first last ends some is =
      let low = back-low last ends in
      let long = ap (index_of list) is in
      omega arith

  pub none-last : (n : ℕ) (last : Option Address) → n < index_after list last → last ≡ None → ⊥
  none-last n last some is = let zero_is = ap (index_after list) is in omega arith

  -- the two ends are one address if one item is left, and else two
  differ-by : (a b : Address) (same : Bool) → is_same a b ≡ same → slice_get list (index_of list (Some a)) ≡ Some a → slice_get list (index_of list (Some b)) ≡ Some b
      → index_of list (Some a) < suc (index_of list (Some b)) → not same ≡ nat_lt (index_of list (Some a) + 1) (suc (index_of list (Some b)))
  differ-by a b true is at_a at_b some =
      let place = ap (λ x. index_of list (Some x)) (same-address a b is) in
      sym (le-ltb (index_of list (Some a) + 1) (suc (index_of list (Some b))) (omega arith))
  differ-by a b false is at_a at_b some = sym (lt-ltb (index_of list (Some a) + 1) (suc (index_of list (Some b))) (by (cases_eq (index_of list (Some a)) (index_of list (Some b)))))
    where
      by : (index_of list (Some a) ≡ index_of list (Some b)) ⊎ (index_of list (Some a) ≡ index_of list (Some b) → ⊥) → index_of list (Some a) + 1 < suc (index_of list (Some b))
      by (inl place) =
          let one : a ≡ b = same_Some a b (sym at_a ∙ ap (slice_get list) place ∙ at_b) in
          let no : false ≡ true = sym is ∙ ap (is_same a) (sym one) ∙ same-itself a in
          absurd (cc)
      by (inr apart) = omega arith

  pub differ : (first last : Option Address) → first ≡ slice_get list (index_of list first) → last ≡ prior list (index_after list last)
      → index_of list first < index_after list last → not (option_eq is_same first last) ≡ nat_lt (index_of list first + 1) (index_after list last)
  differ None last starts ends some = absurd (none-first None last ends some refl)
  differ (Some a) None starts ends some = absurd (none-last (index_of list (Some a)) None some refl)
  differ (Some a) (Some b) starts ends some = differ-by a b (is_same a b) refl (sym starts) (sym ends) some

  module _ (once : IsOnce list) where
    pub index-is : (n : ℕ) (found : Option Address) → found ≡ slice_get list n → n ≤ length list → index_of list found ≡ n
    index-is n None is low = let past = get_none list n (sym is) in omega arith
    index-is n (Some a) is low = once (index_of list (Some a)) n a (at-own list n a (sym is)) (sym is)

    pub after-is : (n : ℕ) (found : Option Address) → found ≡ prior list n → n ≤ length list → index_after list found ≡ n
    after-is zero None is low = refl
    after-is zero (Some a) is low = absurd (cc)
    after-is (suc n) None is low = let past = get_none list n (sym is) in absurd (omega arith)
    after-is (suc n) (Some a) is low = ap suc (once (index_of list (Some a)) n a (at-own list n a (sym is)) (sym is))

    -- the ends after a step
    module _ (first last : Option Address) (starts : first ≡ slice_get list (index_of list first)) (ends : last ≡ prior list (index_after list last))
        (some : index_of list first < index_after list last) where
      pub next-front : index_of list (slice_get list (index_of list first + 1)) ≡ index_of list first + 1
      next-front = let low = back-low last ends in index-is (index_of list first + 1) (slice_get list (index_of list first + 1)) refl (omega arith)

      pub next-back : index_after list (prior list (index_after list last - 1)) ≡ index_after list last - 1
      next-back = let low = back-low last ends in after-is (index_after list last - 1) (prior list (index_after list last - 1)) refl (omega arith)

      pub any-front : (next same : Option Address) → next ≡ slice_get list (index_of list first + 1) → same ≡ prior list (index_after list last)
          → not (option_eq is_same first last) ≡ nat_lt (index_of list next) (index_after list same)
      any-front next same is stays =
          let front : index_of list next ≡ index_of list first + 1 = ap (index_of list) is ∙ next-front in
          let back : index_after list same ≡ index_after list last = ap (index_after list) (stays ∙ sym ends) in
          differ first last starts ends some ∙ (λ i. nat_lt (sym front i) (sym back i))

      pub any-back : (same previous : Option Address) → same ≡ slice_get list (index_of list first) → previous ≡ prior list (index_after list last - 1)
          → not (option_eq is_same first last) ≡ nat_lt (index_of list same) (index_after list previous)
      any-back same previous stays is =
          let front : index_of list same ≡ index_of list first = ap (index_of list) (stays ∙ sym starts) in
          let back : index_after list previous ≡ index_after list last - 1 = ap (index_after list) is ∙ next-back in
          differ first last starts ends some ∙ shifted (index_of list first) (index_after list last) some ∙ (λ i. nat_lt (sym front i) (sym back i))
