-- The address at an index of a list, and the one before an index, are at their own indices, which are within the list.
use Rattle.std.proofs.Common.{◌≡◌, ◌≤◌, ◌∙◌, ℕ, zero, suc, ◌+◌, Bool, true, false, not, cond, ◌&&◌, List, [], ◌∷◌, length, slice_get, Option, Some, None, nat_eq, arith, refl, sym, ap, inl, inr}
use Rattle.std.proofs.lemmas.Bool.Decides.{eqb_tells}
use Rattle.std.proofs.lemmas.List.Sums.{prefix_len-le-length}
use Rattle.std.proofs.lemmas.Option.{same_Some, slice_get_past}
use Rattle.std.specs.List.{position_or_len}
use Rattle.std.specs.Option.{option_eq}
use Rattle.btree_item.specs.Address.{Address}
use Rattle.btree_laws.specs.Visits.{prior}
use Rattle.btree_map.specs.Spans.{index_after, index_of, is_same}

same-offset : (m n : Option ℕ) → option_eq nat_eq m n ≡ true → m ≡ n
same-offset None None e = refl
same-offset None (Some n) e = absurd (cc)
same-offset (Some m) None e = absurd (cc)
same-offset (Some m) (Some n) e = elim (eqb_tells m n) [
  | inl same ↦ ap (λ k. Some k) same.1
  | inr apart ↦ let no : false ≡ true = sym apart.0 ∙ e in absurd (cc)
]

offset-itself : (m : Option ℕ) → option_eq nat_eq m m ≡ true
offset-itself None = refl
offset-itself (Some m) = elim (eqb_tells m m) [
  | inl same ↦ same.0
  | inr apart ↦ absurd (apart.1 refl)
]

pub same-address : (a b : Address) → is_same a b ≡ true → a ≡ b
same-address a b e = elim (eqb_tells a.id b.id) [
  | inl same ↦
      let rest : option_eq nat_eq a.offset b.offset ≡ true = sym (ap (λ t. t && option_eq nat_eq a.offset b.offset) same.0) ∙ e in
      let offset = same-offset a.offset b.offset rest in
      λ i. record { id = same.1 i; offset = offset i }
  | inr apart ↦
      let no : false ≡ true = sym (ap (λ t. t && option_eq nat_eq a.offset b.offset) apart.0) ∙ e in
      absurd (cc)
]

pub same-itself : (a : Address) → is_same a a ≡ true
same-itself a = elim (eqb_tells a.id a.id) [
  | inl same ↦ ap (λ t. t && option_eq nat_eq a.offset a.offset) same.0 ∙ offset-itself a.offset
  | inr apart ↦ absurd (apart.1 refl)
]

-- an address that is in a list is there at its own index
pub at-own : (list : List Address) (n : ℕ) (a : Address) → slice_get list n ≡ Some a → slice_get list (position_or_len (is_same a) list) ≡ Some a
at-own [] n a here = absurd (cc)
at-own (x ∷ xs) n a here = by (λ m later. at-own xs m a later) (is_same a x) refl n here
  where
    by : ((m : ℕ) → slice_get xs m ≡ Some a → slice_get xs (position_or_len (is_same a) xs) ≡ Some a) → (t : Bool) → is_same a x ≡ t → (n : ℕ) → slice_get (x ∷ xs) n ≡ Some a → slice_get (x ∷ xs) (position_or_len (is_same a) (x ∷ xs)) ≡ Some a
    by further true is n here =
        ap (λ t. slice_get (x ∷ xs) (cond (not t) (1 + position_or_len (is_same a) xs) 0)) is ∙ ap Some (sym (same-address a x is))
    by further false is zero here =
        let same : a ≡ x = sym (same_Some x a here) in
        let no : false ≡ true = sym is ∙ ap (is_same a) (sym same) ∙ same-itself a in
        absurd (cc)
    by further false is (suc n) here =
        let one : 1 + position_or_len (is_same a) xs ≡ suc (position_or_len (is_same a) xs) = omega arith in
        ap (λ t. slice_get (x ∷ xs) (cond (not t) (1 + position_or_len (is_same a) xs) 0)) is
        ∙ ap (slice_get (x ∷ xs)) one
        ∙ further n here

-- the index of an address is within the list
pub index-within : (list : List Address) (found : Option Address) → index_of list found ≤ length list
index-within list None = omega arith
index-within list (Some a) = prefix_len-le-length (λ x. not (is_same a x)) list

-- an element of a list, as far as it has one, is at its own index
pub at-index : (list : List Address) (n : ℕ) → slice_get list n ≡ slice_get list (index_of list (slice_get list n))
at-index list n = by (slice_get list n) refl
  where
    by : (found : Option Address) → slice_get list n ≡ found → found ≡ slice_get list (index_of list found)
    by None is = sym (slice_get_past list (length list) (omega arith))
    by (Some a) is = sym (at-own list n a is)

pub before-index : (list : List Address) (n : ℕ) → prior list n ≡ prior list (index_after list (prior list n))
before-index list n = by n (prior list n) refl
  where
    by : (n : ℕ) (found : Option Address) → prior list n ≡ found → found ≡ prior list (index_after list found)
    by n None is = refl
    by zero (Some a) is = absurd (cc)
    by (suc n) (Some a) is = sym (at-own list n a is)
