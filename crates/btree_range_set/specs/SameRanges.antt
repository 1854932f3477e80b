-- How sets are compared: by their lists of ranges.
use Rattle.std.specs.Prelude.{ℕ, Bool, List, nat_eq}
use Rattle.std.specs.Cmp.{IsEquivalence, and_equiv, nat_eq_equiv, on_equiv}
use Rattle.std.specs.Cmp.Lexicographic.{lists_equiv, pointwise}
use Rattle.btree_map.specs.Comparison.{pair_eq}

-- whether two lists have the same ranges
abbrev pub ranges_eq : List (ℕ × ℕ) → List (ℕ × ℕ) → Bool
ranges_eq xs ys = pointwise (pair_eq nat_eq nat_eq) xs ys

pub ranges-equiv : IsEquivalence ranges_eq
ranges-equiv = lists_equiv (and_equiv (on_equiv (λ (p : ℕ × ℕ). p.0) {E = nat_eq} nat_eq_equiv) (on_equiv (λ (p : ℕ × ℕ). p.1) {E = nat_eq} nat_eq_equiv))
