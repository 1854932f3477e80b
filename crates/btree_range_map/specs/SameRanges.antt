-- How maps are compared: by their lists of ranges, and `==` of values.
use Rattle.std.specs.Prelude.{ℕ, Bool, ◌&&◌, List, nat_eq}
use Rattle.std.specs.Cmp.{IsEquivalence, and_equiv, nat_eq_equiv, on_equiv}
use Rattle.std.specs.Cmp.Lexicographic.{lists_equiv, pointwise}
use Rattle.btree_map.specs.Comparison.{pair_eq}
use Rattle.btree_range_map.specs.declared.span.Span.{Span}

module _ {V : Type 0} (eq : V → V → Bool) where
  -- whether two ranges with the same start end at the same number and have equal values
  abbrev pub span_eq : Span V → Span V → Bool
  span_eq x y = nat_eq x.end y.end && eq x.value y.value

  -- whether two lists have the same ranges
  abbrev pub ranges_eq : List (ℕ × Span V) → List (ℕ × Span V) → Bool
  ranges_eq xs ys = pointwise (pair_eq nat_eq span_eq) xs ys

pub span-equiv : {V : Type 0} {eq : V → V → Bool} → IsEquivalence eq → IsEquivalence (span_eq eq)
span-equiv {V} {eq} values = and_equiv (on_equiv (λ (s : Span V). s.end) {E = nat_eq} nat_eq_equiv) (on_equiv (λ (s : Span V). s.value) {E = eq} values)

pub ranges-equiv : {V : Type 0} {eq : V → V → Bool} → IsEquivalence eq → IsEquivalence (ranges_eq eq)
ranges-equiv {V} {eq} values =
    lists_equiv (and_equiv (on_equiv (λ (p : ℕ × Span V). p.0) {E = nat_eq} nat_eq_equiv) (on_equiv (λ (p : ℕ × Span V). p.1) {E = span_eq eq} (span-equiv values)))
