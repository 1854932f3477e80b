-- Series of insertions and removals, by one range more.
use Rattle.btree_range_set.proofs.Common.{◌≡◌, ◌∙◌, ◌<◌, ◌≤◌, ℕ, Bool, true, false, not, ◌&&◌, ◌||◌, List, [], ◌∷◌, length, Option, Some, refl, sym, ap, subst, arith, inl, inr, cases_lt, has_number, is_within, GoesThrough, GrowsWithinLimit, IsDifferenceWith, IsUnionWith}
use Rattle.btree_item.specs.declared.refused.Cause.{Cause}
use Rattle.btree_item.specs.declared.refused.Cause.TheVariants.{Count, Store}
use Rattle.btree_laws.specs.TreeState.{refused_once}
use Rattle.btree_range_set.specs.Ranges.{IsDifference, IsUnion}
use Rattle.btree_range_set.specs.Series.{CountsLastRefusal}
use Rattle.btree_range_set.specs.State.{IsRefused, RangeState}

-- ---- the numbers
or-assoc : (a b c : Bool) → ((a || b) || c) ≡ (a || (b || c))
or-assoc true b c = refl
or-assoc false b c = refl

or-none : (a : Bool) → a ≡ (a || false)
or-none true = refl
or-none false = refl

and-not-or : (a b c : Bool) → ((a && not b) && not c) ≡ (a && not (b || c))
and-not-or true true c = refl
and-not-or true false c = refl
and-not-or false b c = refl

and-not-none : (a : Bool) → a ≡ (a && not false)
and-not-none true = refl
and-not-none false = refl

union-more : (old mid new given : List (ℕ × ℕ)) (x : ℕ × ℕ) → IsUnion old x.0 x.1 mid → IsUnionWith mid given new → IsUnionWith old (x ∷ given) new
union-more old mid new given x one rest n = rest n ∙ ap (λ b. b || has_number given n) (one n) ∙ or-assoc (has_number old n) (is_within x n) (has_number given n)

difference-more : (old mid new given : List (ℕ × ℕ)) (x : ℕ × ℕ) → IsDifference old x.0 x.1 mid → IsDifferenceWith mid given new → IsDifferenceWith old (x ∷ given) new
difference-more old mid new given x one rest n =
    rest n ∙ ap (λ b. b && not (has_number given n)) (one n) ∙ and-not-or (has_number old n) (is_within x n) (has_number given n)

-- ---- a series
module _ {S : Type 0} (steps : S → Option (ℕ × ℕ) → S → Type 0) where
  -- nothing but its outcome came
  pub adds-none : (old new : RangeState) (source rest : S) (outcome : Option (ℕ × ℕ)) → steps source outcome rest → new.ranges ≡ old.ranges
      → GoesThrough IsUnionWith steps old source outcome new rest
  adds-none old new source rest outcome is same = record {
    given = [];
    yields = (source, refl, is);
    leaves = λ n. ap (λ l. has_number l n) same ∙ or-none (has_number old.ranges n);
  }

  pub removes-none : (old new : RangeState) (source rest : S) (outcome : Option (ℕ × ℕ)) → steps source outcome rest → new.ranges ≡ old.ranges
      → GoesThrough IsDifferenceWith steps old source outcome new rest
  removes-none old new source rest outcome is same = record {
    given = [];
    yields = (source, refl, is);
    leaves = λ n. ap (λ l. has_number l n) same ∙ and-not-none (has_number old.ranges n);
  }

  -- one range came before the others
  module _ (old mid : RangeState) (source next : S) (x : ℕ × ℕ) (is : steps source (Some x) next) where
    pub adds-more : IsUnion old.ranges x.0 x.1 mid.ranges → (outcome : Option (ℕ × ℕ)) (new : RangeState) (rest : S)
        → GoesThrough IsUnionWith steps mid next outcome new rest → GoesThrough IsUnionWith steps old source outcome new rest
    adds-more one outcome new rest later = record {
      given = x ∷ later.given;
      yields = (later.yields.0, (next, is, later.yields.1), later.yields.2);
      leaves = union-more old.ranges mid.ranges new.ranges later.given x one later.leaves;
    }

    pub removes-more : IsDifference old.ranges x.0 x.1 mid.ranges → (outcome : Option (ℕ × ℕ)) (new : RangeState) (rest : S)
        → GoesThrough IsDifferenceWith steps mid next outcome new rest → GoesThrough IsDifferenceWith steps old source outcome new rest
    removes-more one outcome new rest later = record {
      given = x ∷ later.given;
      yields = (later.yields.0, (next, is, later.yields.1), later.yields.2);
      leaves = difference-more old.ranges mid.ranges new.ranges later.given x one later.leaves;
    }

-- ---- how many ranges there are, and a refusal
pub grows-more : (old mid new : RangeState) → mid.kept ≡ old.kept → GrowsWithinLimit old mid → GrowsWithinLimit mid new → GrowsWithinLimit old new
grows-more old mid new same first later more = elim (cases_lt (length mid.ranges) (length new.ranges)) [
  | inl grows ↦ let few = later grows in let limit = ap (λ k. k.limit) same in omega (arith, few, limit)
  | inr stays ↦ let few = first (omega (arith, stays, more)) in omega (arith, few, stays)
]

pub grows-refused : (old mid new : RangeState) (cause : Cause) → GrowsWithinLimit old mid → IsRefused mid new cause → GrowsWithinLimit old new
grows-refused old mid new cause grows is = subst (λ l. length old.ranges < length l → length l ≤ old.kept.limit) (sym is.ranges) grows

pub counts-last : (old mid new : RangeState) (cause : Cause) → mid.kept ≡ old.kept → IsRefused mid new cause → CountsLastRefusal old new cause
counts-last old mid new Store same is =
    let count = ap length is.ranges in
    let limit = ap (λ k. k.limit) same in
    (is.counts.0 ∙ ap refused_once same, omega (arith, is.counts.1, count, limit))
counts-last old mid new Count same is =
    let count = ap length is.ranges in
    let limit = ap (λ k. k.limit) same in
    (is.counts.0 ∙ same, omega (arith, is.counts.1, count, limit))

pub ruleset series = (adds-none, adds-more, removes-none, removes-more, grows-more, grows-refused, counts-last)
