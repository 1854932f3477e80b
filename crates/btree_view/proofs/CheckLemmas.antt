-- Keys that ascend, by neighbours, and checks by what they return.
use Rattle.std.proofs.Common.{◌≡◌, ℕ, nat_eq, not, ◌+◌, ◌-◌, ◌<◌, ◌≤◌, inl, inr, Bool, true, false, List, [], ◌∷◌, Option, Some, None, length, map, zero, suc, refl, sym, ◌∙◌, ap, arith, Ordering}
use Rattle.std.specs.declared.cmp.Ordering.TheVariants.{Less}
use Rattle.std.specs.Prelude.{slice_get}
use Rattle.std.specs.Cmp.{IsTotalOrder}
use Rattle.std.specs.List.Sorted.{IsStrictlySortedBy}
use Rattle.std.proofs.lemmas.Bool.{cases_lt}
use Rattle.std.proofs.lemmas.Option.{slice_get-map}
use Rattle.std.specs.Borrow.{Bor}
use Rattle.std.specs.Option.{option_copied, option_eq, option_map}
use Rattle.std.proofs.lemmas.Bool.Decides.{eqb_tells}
use Rattle.std.specs.Ordering.{is_lt}
use Rattle.btree_item.proofs.PairEdits.{all_above}

module _ {K : Type 0} (cmp : K → K → Ordering) where
  -- each of the first n keys is below the next
  pub record AscendUpTo (n : ℕ) (keys : List K) : Type 0 where
    pub less : (i : ℕ) (p q : K) → suc i < n → slice_get keys i ≡ Some p → slice_get keys (suc i) ≡ Some q → cmp p q ≡ Less

  pub AscendUpTo-one : (keys : List K) → AscendUpTo 1 keys
  AscendUpTo-one keys = record { less = λ i p q lt here next. absurd (omega arith) }

  pub AscendUpTo-next : (n : ℕ) (x y : K) (keys : List K) → AscendUpTo n keys → 1 ≤ n → slice_get keys (n - 1) ≡ Some x → slice_get keys n ≡ Some y → cmp x y ≡ Less → AscendUpTo (n + 1) keys
  AscendUpTo-next n x y keys up some at_x at_y less = record { less = λ i p q lt here next. step i p q lt here next }
    where
      step : (i : ℕ) (p q : K) → suc i < n + 1 → slice_get keys i ≡ Some p → slice_get keys (suc i) ≡ Some q → cmp p q ≡ Less
      step i p q lt here next = elim (cases_lt (suc i) n) [
        | inl earlier ↦ up.less i p q earlier here next
        | inr reached ↦
            let same_y : suc i ≡ n = omega arith in
            let same_x : i ≡ n - 1 = omega arith in
            let both_x : slice_get keys i ≡ Some x = ap (slice_get keys) same_x ∙ at_x in
            let both_y : slice_get keys (suc i) ≡ Some y = ap (slice_get keys) same_y ∙ at_y in
            let equal_x : x ≡ p = cc in
            let equal_y : y ≡ q = cc in
            rw (← equal_x, ← equal_y) less
      ]

  pub neighbours-less : (i : ℕ) (x y : K) (keys : List K) → IsStrictlySortedBy cmp keys → slice_get keys i ≡ Some x → slice_get keys (suc i) ≡ Some y → cmp x y ≡ Less
  unfolding IsStrictlySortedBy
  neighbours-less i x y [] up at_x at_y = absurd (cc)
  neighbours-less zero x y (z ∷ []) up at_x at_y = absurd (cc)
  neighbours-less zero x y (z ∷ w ∷ keys) up at_x at_y =
      let equal_x : z ≡ x = cc in
      let equal_y : w ≡ y = cc in
      rw (← equal_x, ← equal_y) (up.0.0)
  neighbours-less (suc i) x y (z ∷ keys) up at_x at_y = neighbours-less i x y keys up.1 at_x at_y

  module _ (o : IsTotalOrder cmp) where
    pub ascend-from_neighbours : (keys : List K) → AscendUpTo (length keys) keys → IsStrictlySortedBy cmp keys
    unfolding IsStrictlySortedBy
    ascend-from_neighbours [] up = tt
    ascend-from_neighbours (x ∷ []) up = (tt, tt)
    ascend-from_neighbours (x ∷ y ∷ keys) up =
        let rest = ascend-from_neighbours (y ∷ keys) (record { less = λ i p q lt here next. up.less (suc i) p q (omega arith) here next }) in
        let first = up.less 0 x y (omega arith) refl refl in
        ((first, all_above cmp o x y keys first rest.0), rest)

    pub ascend-from_end : (n : ℕ) (keys : List K) → length keys ≤ n → AscendUpTo n keys → IsStrictlySortedBy cmp keys
    ascend-from_end n keys past up = ascend-from_neighbours keys (record { less = λ i p q lt here next. up.less i p q (omega arith) here next })

  pub not-ascending : (n : ℕ) (x y : K) (keys : List K) → 1 ≤ n → IsStrictlySortedBy cmp keys → slice_get keys (n - 1) ≡ Some x → slice_get keys n ≡ Some y → is_lt (cmp x y) ≡ false → ⊥
  not-ascending zero x y keys some up at_x at_y not_less = omega arith
  not-ascending (suc n) x y keys some up at_x at_y not_less =
      let same : suc n - 1 ≡ n = omega arith in
      let less = neighbours-less n x y keys up (ap (slice_get keys) (sym same) ∙ at_x) at_y in
      let is : is_lt (cmp x y) ≡ true = ap is_lt less in
      absurd (cc)

-- the key of what is in a slot
pub key-from_slot : {T K : Type 0} (key_of : T → K) (i : ℕ) (slots : List T) (r : Option (Bor T)) (slot : Bor T) (key : K) → option_copied r ≡ slice_get slots i → r ≡ Some slot → key ≡ key_of slot.now → slice_get (map key_of slots) i ≡ Some key
key-from_slot key_of i slots r slot key at is key_is =
    slice_get-map key_of slots i ∙ ap (option_map key_of) (sym at ∙ ap option_copied is) ∙ ap (λ k. Some k) (sym key_is)

pub same-parent : (a b : Option ℕ) (differ : Bool) → differ ≡ not (option_eq nat_eq a b) → differ ≡ false → a ≡ b
same-parent None None differ is told = refl
same-parent None (Some n) differ is told = absurd (cc)
same-parent (Some m) None differ is told = absurd (cc)
same-parent (Some m) (Some n) differ is told = elim (eqb_tells m n) [
  | inl same ↦ ap (λ k. Some k) same.1
  | inr apart ↦
      let flip : differ ≡ true = is ∙ ap not apart.0 in
      absurd (cc)
]

pub other-parent : (a b : Option ℕ) (differ : Bool) → differ ≡ not (option_eq nat_eq a b) → differ ≡ true → a ≡ b → ⊥
other-parent None None differ is told same = absurd (cc)
other-parent None (Some n) differ is told same = absurd (cc)
other-parent (Some m) None differ is told same = absurd (cc)
other-parent (Some m) (Some n) differ is told same = elim (eqb_tells m n) [
  | inl equal ↦
      let flip : differ ≡ false = is ∙ ap not equal.0 in
      absurd (cc)
  | inr apart ↦
      let equal : m ≡ n = cc in
      absurd (apart.1 equal)
]
