-- Series of insertions, by one range more.
use Rattle.btree_range_map.proofs.Common.{◌≡◌, ◌<◌, ◌≤◌, ◌∙◌, ℕ, cond, List, [], ◌∷◌, length, Option, Some, refl, sym, ap, subst, arith, inl, inr, cases_lt, Clone, Count, RangeCause, Store, Span, CutsOne, IsAssigned, is_within, value_at, GoesThrough, GrowsWithinLimit}
use Rattle.btree_laws.specs.TreeState.{refused_once}
use Rattle.btree_range_map.specs.Series.{assigned_all}
use Rattle.btree_range_map.specs.State.{CountsLastRefusal, FailsToClone, IsInsertRefused, IsRefused, RangeState}

-- ---- the values
module _ {V S : Type 0} (steps : S → Option (ℕ × Span V) → S → Type 0) where
  -- nothing but its outcome came
  pub assigns-none : (old new : RangeState V) (source rest : S) (outcome : Option (ℕ × Span V)) → steps source outcome rest → new.ranges ≡ old.ranges
      → GoesThrough steps old source outcome new rest
  assigns-none old new source rest outcome is same = record {
    given = [];
    yields = (source, refl, is);
    assigned = λ n. ap (λ l. value_at l n) same;
  }

  -- one range came before the others
  pub assigns-more : (old mid : RangeState V) (source next : S) (x : ℕ × Span V) → steps source (Some x) next → IsAssigned old.ranges x.0 x.1.end x.1.value mid.ranges
      → (outcome : Option (ℕ × Span V)) (new : RangeState V) (rest : S) → GoesThrough steps mid next outcome new rest → GoesThrough steps old source outcome new rest
  assigns-more old mid source next x is one outcome new rest later = record {
    given = x ∷ later.given;
    yields = (later.yields.0, (next, is, later.yields.1), later.yields.2);
    assigned = λ n.
        let same : value_at mid.ranges ≡ (λ (m : ℕ). cond (is_within x m) (Some x.1.value) (value_at old.ranges m)) = λ i m. one m i in
        later.assigned n ∙ ap (λ (map : ℕ → Option V). assigned_all later.given map n) same;
  }

-- ---- how many ranges there are, and a refusal
module _ {V : Type 0} where
  pub grows-more : (old mid new : RangeState V) → mid.kept ≡ old.kept → GrowsWithinLimit old mid → GrowsWithinLimit mid new → GrowsWithinLimit old new
  grows-more old mid new same first later more = elim (cases_lt (length mid.ranges) (length new.ranges)) [
    | inl grows ↦ let few = later grows in let limit = ap (λ k. k.limit) same in omega (arith, few, limit)
    | inr stays ↦ let few = first (omega (arith, stays, more)) in omega (arith, few, stays)
  ]

  pub grows-same : (old mid new : RangeState V) → GrowsWithinLimit old mid → new.ranges ≡ mid.ranges → GrowsWithinLimit old new
  grows-same old mid new grows same = subst (λ (l : List (ℕ × Span V)). length old.ranges < length l → length l ≤ old.kept.limit) (sym same) grows

  pub refused-ranges : (infallible : V → Type 0) (mid new : RangeState V) (start end : ℕ) (cause : RangeCause) → IsInsertRefused infallible mid new start end cause → new.ranges ≡ mid.ranges
  refused-ranges infallible mid new start end cause (inl one) = one.ranges
  refused-ranges infallible mid new start end cause (inr (inl two)) = two.1.ranges
  refused-ranges infallible mid new start end cause (inr (inr fails)) = fails.ranges

  refused-last : (old mid new : RangeState V) (more : ℕ) (cause : RangeCause) → mid.kept ≡ old.kept → IsRefused mid new more cause → IsRefused (record new { kept = old.kept }) new more cause
  refused-last old mid new more Store same is =
      let count = ap length is.ranges in
      let limit = ap (λ k. k.limit) same in
      record { ranges = refl; counts = (is.counts.0 ∙ ap refused_once same, omega (arith, is.counts.1, count, limit)) }
  refused-last old mid new more Count same is =
      let count = ap length is.ranges in
      let limit = ap (λ k. k.limit) same in
      record { ranges = refl; counts = (is.counts.0 ∙ same, omega (arith, is.counts.1, count, limit)) }
  refused-last old mid new more Clone same is = absurd is.counts

  pub counts-last : (infallible : V → Type 0) (old mid new : RangeState V) (start end : ℕ) (cause : RangeCause) → mid.kept ≡ old.kept → IsInsertRefused infallible mid new start end cause
      → CountsLastRefusal infallible old new start end cause
  counts-last infallible old mid new start end cause same (inl one) = inl (refused-last old mid new 1 cause same one)
  counts-last infallible old mid new start end cause same (inr (inr fails)) =
      let ranges : mid.ranges ≡ new.ranges = sym fails.ranges in
      let now : mid ≡ record new { kept = old.kept } = λ i. record { ranges = ranges i; kept = same i } in
      inr (inr (subst (λ (s : RangeState V). FailsToClone infallible s new start end cause) now fails))
  counts-last infallible old mid new start end cause same (inr (inl two)) =
      inr (inl (subst (λ (l : List (ℕ × Span V)). CutsOne l start end) (sym two.1.ranges) two.0, refused-last old mid new 2 cause same two.1))
