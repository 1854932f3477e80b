-- One step along ranges that may be those of a map.
use Rattle.std.proofs.Common.{◌≡◌, ◌↔◌, ◌≤◌, IsTrue, false, true, List, [], ◌∷◌, ℕ, zero, suc, sym, subst, refl, arith, Option, Some, None, ap, ◌∙◌}
use Rattle.std.proofs.lemmas.Option.{same_Some}
use Rattle.btree_range_map.specs.declared.span.Span.{Span}
use Rattle.btree_range_map.specs.Places.{Follows, MayFollow}
use Rattle.btree_range_map.specs.Ranges.{AreRuns, AscendFrom, DifferWhereTheyTouch}

module _ {V : Type 0} where
  -- the least number that the next range may begin with
  abbrev low_after : Option (Span V) → ℕ
  low_after None = 0
  low_after (Some past) = past.end

  -- it does not touch the one before with the same value
  abbrev DiffersFrom : Option (Span V) → ℕ × Span V → Type 0
  DiffersFrom None x = Unit {0}
  DiffersFrom (Some past) x = past.end ≡ x.0 → past.value ≡ x.1.value → ⊥

  abbrev FirstDiffers : Option (Span V) → List (ℕ × Span V) → Type 0
  FirstDiffers past [] = Unit {0}
  FirstDiffers past (x ∷ xs) = DiffersFrom past x

  -- they are runs, after one with this span, or after none
  pub record AreRunsAfter (past : Option (Span V)) (xs : List (ℕ × Span V)) : Type 0 where
    pub ascend : AscendFrom (low_after past) xs
    pub first : FirstDiffers past xs
    pub differ : DifferWhereTheyTouch xs

  from_both : (past : Option (Span V)) (x : ℕ × Span V) → Follows past x.0 x.1.value → (low_after past ≤ x.0) × DiffersFrom past x
  from_both None x follows = (omega arith, tt)
  from_both (Some past) x follows = follows

  both_from : (past : Option (Span V)) (x : ℕ × Span V) → (low_after past ≤ x.0) × DiffersFrom past x → Follows past x.0 x.1.value
  both_from None x h = tt
  both_from (Some past) x h = h

  first_of : (x : ℕ × Span V) (xs : List (ℕ × Span V)) → DifferWhereTheyTouch (x ∷ xs) → FirstDiffers (Some x.1) xs
  first_of x [] differ = tt
  first_of x (y ∷ ys) differ = differ 0 x y refl refl

  joined : (x : ℕ × Span V) (xs : List (ℕ × Span V)) → FirstDiffers (Some x.1) xs → DifferWhereTheyTouch xs → DifferWhereTheyTouch (x ∷ xs)
  joined x [] first differ zero a b here next touch same = absurd (let none : None ≡ Some b = next in cc)
  joined x (y ∷ ys) first differ zero a b here next touch same =
      let at_a : x ≡ a = same_Some x a here in
      let at_b : y ≡ b = same_Some y b next in
      first (ap (λ (z : ℕ × Span V). z.1.end) at_a ∙ touch ∙ sym (ap (λ (z : ℕ × Span V). z.0) at_b)) (ap (λ (z : ℕ × Span V). z.1.value) at_a ∙ same ∙ sym (ap (λ (z : ℕ × Span V). z.1.value) at_b))
  joined x xs first differ (suc q) a b here next touch same = differ q a b here next touch same

  module _ (runs : Type 0) (past : Option (Span V)) (xs rest : List (ℕ × Span V)) (x : ℕ × Span V) (is : xs ≡ x ∷ rest) (so_far : runs ↔ AreRunsAfter past xs) where
    here : AreRunsAfter past xs → AreRunsAfter past (x ∷ rest)
    here h = subst (AreRunsAfter past) is h

    pub run-follows : MayFollow past x.0 x.1 → runs ↔ AreRunsAfter (Some x.1) rest
    run-follows may = (
      λ h. let all = here (so_far.0 h) in record { ascend = all.ascend.2; first = first_of x rest all.differ; differ = λ q. all.differ (suc q) },
      λ h. so_far.1 (subst (AreRunsAfter past) (sym is) (let from = from_both past x may.1 in record { ascend = (from.0, may.0, h.ascend); first = from.1; differ = joined x rest h.first h.differ })),
    )

    pub run-fails : (MayFollow past x.0 x.1 → IsTrue false) → IsTrue false ↔ runs
    run-fails fails = (λ no. absurd (let bad : false ≡ true = no in cc), λ h. let all = here (so_far.0 h) in fails (all.ascend.1, both_from past x (all.ascend.0, all.first)))

  pub runs-begin : (xs : List (ℕ × Span V)) → AreRuns xs ↔ AreRunsAfter None xs
  runs-begin xs = (λ h. record { ascend = h.ascend; first = none xs; differ = h.differ }, λ h. record { ascend = h.ascend; differ = h.differ }) where
    none : (ys : List (ℕ × Span V)) → FirstDiffers None ys
    none [] = tt
    none (y ∷ ys) = tt

  pub runs-end : (runs : Type 0) (past : Option (Span V)) (xs : List (ℕ × Span V)) → xs ≡ [] → runs ↔ AreRunsAfter past xs → IsTrue true ↔ runs
  runs-end runs past xs is so_far = (λ yes. so_far.1 (subst (AreRunsAfter past) (sym is) (record { ascend = tt; first = tt; differ = λ q a b here. absurd (let none : None ≡ Some a = here in cc) })), λ h. refl)
