-- The first or the last range is removed.
use Rattle.btree_range_map.proofs.Common.{◌≡◌, ◌∙◌, ℕ, List, slice_get, Option, Some, None, refl, sym, ap, subst, arith, length-remove, slice_get_within, remove, TreeState, pairs_of, Span, AreRuns, value_at}
use Rattle.std.proofs.Common.{IfNone, IfSome}
use Rattle.std.specs.declared.cmp.Ordering.{Ordering}
use Rattle.btree_map.specs.Removal.{RemovesPlace}
use Rattle.btree_range_map.specs.Ranges.{IsCleared}
use Rattle.btree_range_map.proofs.ListLemmas.{get-removed}
use Rattle.btree_range_map.proofs.RunLemmas.{next-from, runs-taken}
use Rattle.btree_range_map.proofs.StepLemmas.{clear-done, clear-more, ends-taken}

module _ {V : Type 0} where
  -- without the range at a place its numbers have no value
  taken-cleared : (xs : List (ℕ × Span V)) (p : ℕ) (x : ℕ × Span V) → AreRuns xs → slice_get xs p ≡ Some x → IsCleared xs x.0 x.1.end (remove xs p)
  taken-cleared xs p x runs at =
      let within = slice_get_within xs p x at in
      let fewer = length-remove xs p within in
      clear-done xs (remove xs p) p x.0 x.1.end (runs-taken xs p x runs at) (omega (arith, within, fewer))
      (ends-taken xs p x.0 (λ q y next there. next-from 0 xs q y x runs.ascend there (ap (slice_get xs) next ∙ at)))
      (λ y there. next-from 0 xs p x y runs.ascend at (sym (get-removed xs p) ∙ there))
      (clear-more xs xs p x.0 x.1.end x runs at (omega arith) (omega arith) (λ n out. refl))

  module _ (old new : TreeState ℕ (Span V)) (cmp : ℕ → ℕ → Ordering) (place : ℕ) where
    pub popped-runs : (result : Option (ℕ × Span V)) → result ≡ slice_get (pairs_of old) place → IfSome result (RemovesPlace old new cmp place) → IfNone result (new ≡ old)
        → AreRuns (pairs_of old) → AreRuns (pairs_of new)
    popped-runs (Some x) at removed same runs =
        let P : List (ℕ × Span V) → Type 0 = AreRuns in
        subst P (sym removed.pairs) (runs-taken (pairs_of old) place x runs (sym at))
    popped-runs None at removed same runs = subst (λ (t : TreeState ℕ (Span V)). AreRuns (pairs_of t)) (sym same) runs

    pub popped-cleared : (result : Option (ℕ × Span V)) → result ≡ slice_get (pairs_of old) place → IfSome result (RemovesPlace old new cmp place)
        → AreRuns (pairs_of old) → IfSome result (λ x. IsCleared (pairs_of old) x.0 x.1.end (pairs_of new))
    popped-cleared (Some x) at removed runs = λ n. ap (λ l. value_at l n) removed.pairs ∙ taken-cleared (pairs_of old) place x runs (sym at) n
    popped-cleared None at removed runs = tt
