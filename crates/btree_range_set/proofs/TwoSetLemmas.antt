-- A series whose ranges are those of another set, or its gaps.
use Rattle.btree_range_set.proofs.Common.{◌≡◌, ◌≤◌, ◌<◌, ◌∙◌, ℕ, suc, Bool, true, false, not, ◌&&◌, ◌||◌, List, [], ◌∷◌, length, slice_get, Option, None, Some, refl, sym, ap, subst, arith, ◌⊎◌, inl, inr, cases_Bool, cases_lt, le-ltb, lt-ltb, within-from, within-high, AreRuns, AreRunsFrom, IsMaximalRun, has_number, is_within, IsDifferenceWith, IsUnionWith, within-above, none-below}
use Rattle.std.proofs.Common.{nat_le, nat_lt, ◌++◌, Result, Ok, Err, IfErr}
use Rattle.std.proofs.lemmas.Bool.{and_parts, le-leb, lt-leb, or_from}
use Rattle.std.specs.Iterator.{YieldsFirst, YieldsThen}
use Rattle.btree_item.specs.declared.refused.Refused.{Refused}
use Rattle.btree_range_set.specs.Gaps.{AreGaps}
use Rattle.btree_range_set.specs.Ranges.{CutsOne, IsGap, OverlapsNone}
use Rattle.btree_range_set.specs.Series.{AddsRanges, AddsRangesUntil, RemovesRanges, RemovesRangesUntil}
use Rattle.btree_range_set.specs.State.{RangeState}
use Rattle.btree_range_set.specs.TwoSets.{IsDifferenceBelow, IsIntersectionBelow, IsIntersectionWith, IsUnionBelow}
use Rattle.btree_range_set.proofs.RangeLaws.{maximal}
use Rattle.btree_range_set.proofs.RunLemmas.{has-here}

-- ---- what an iterator over a list gave
abbrev firsts : List (ℕ × ℕ) → Option (ℕ × ℕ) → List (ℕ × ℕ) → Type 0
firsts = YieldsFirst (λ (rest : List (ℕ × ℕ)). rest)

-- to its end, the list
all-given : (given xs rest : List (ℕ × ℕ)) → YieldsThen firsts xs given None rest → given ≡ xs
all-given [] xs rest y = sym y.2.0 ∙ sym y.1
all-given (x ∷ given) xs rest y = ap (λ l. x ∷ l) (all-given given y.1.0 rest (y.0, y.1.2, y.2)) ∙ sym y.1.1

-- to a range, those before it
part-given : (given xs rest : List (ℕ × ℕ)) (x : ℕ × ℕ) → YieldsThen firsts xs given (Some x) rest → xs ≡ given ++ x ∷ rest
part-given [] xs rest x y = y.1 ∙ y.2
part-given (z ∷ given) xs rest x y = y.1.1 ∙ ap (λ l. z ∷ l) (part-given given y.1.0 rest x (y.0, y.1.2, y.2))

-- ---- the ranges before one
starts-above : (low : ℕ) (given rest : List (ℕ × ℕ)) (x : ℕ × ℕ) → AreRunsFrom low (given ++ x ∷ rest) → low ≤ x.0
starts-above low [] rest x runs = runs.0
starts-above low (y ∷ given) rest x runs = let later = starts-above (suc y.1) given rest x runs.2 in omega (arith, later, runs.0, runs.1)

none-above : (low : ℕ) (given rest : List (ℕ × ℕ)) (x : ℕ × ℕ) → AreRunsFrom low (given ++ x ∷ rest) → (n : ℕ) → x.0 ≤ n → has_number given n ≡ false
none-above low [] rest x runs n from = refl
none-above low (y ∷ given) rest x runs n from =
    let later = starts-above (suc y.1) given rest x runs.2 in
    or_from (is_within y n) (has_number given n) (within-above y n (omega (arith, later, from))) (none-above (suc y.1) given rest x runs.2 n from)

same-below : (low : ℕ) (given rest : List (ℕ × ℕ)) (x : ℕ × ℕ) → AreRunsFrom low (given ++ x ∷ rest) → (n : ℕ) → n < x.0
    → has_number given n ≡ has_number (given ++ x ∷ rest) n
same-below low [] rest x runs n below = sym (none-below x.0 (x ∷ rest) (omega arith, runs.1, runs.2) n below)
same-below low (y ∷ given) rest x runs n below = ap (λ b. is_within y n || b) (same-below (suc y.1) given rest x runs.2 n below)

-- they have the numbers of all ranges that are below its start
has-before : (given rest : List (ℕ × ℕ)) (x : ℕ × ℕ) → AreRuns (given ++ x ∷ rest) → (n : ℕ)
    → has_number given n ≡ (nat_lt n x.0 && has_number (given ++ x ∷ rest) n)
has-before given rest x runs n = elim (cases_lt n x.0) [
  | inl below ↦ rw (lt-ltb n x.0 below) (same-below 0 given rest x runs n below)
  | inr from ↦ rw (le-ltb n x.0 from) (none-above 0 given rest x runs n from)
]

listed : (given rest : List (ℕ × ℕ)) (x : ℕ × ℕ) → slice_get (given ++ x ∷ rest) (length given) ≡ Some x
listed [] rest x = refl
listed (y ∷ given) rest x = listed given rest x

-- ---- the ranges of another set
module _ (xs : List (ℕ × ℕ)) (runs : AreRuns xs) (given rest : List (ℕ × ℕ)) (x : ℕ × ℕ) (y : YieldsThen firsts xs given (Some x) rest) where
  split : xs ≡ given ++ x ∷ rest
  split = part-given given xs rest x y

  split-runs : AreRuns (given ++ x ∷ rest)
  split-runs = subst (λ l. AreRuns l) split runs

  place : slice_get xs (length given) ≡ Some x
  place = ap (λ l. slice_get l (length given)) split ∙ listed given rest x

  given-before : (n : ℕ) → has_number given n ≡ (nat_lt n x.0 && has_number xs n)
  given-before n = has-before given rest x split-runs n ∙ ap (λ l. nat_lt n x.0 && has_number l n) (sym split)

  refused-run : IsMaximalRun xs x
  refused-run = maximal xs (length given) x runs place

module _ (xs : List (ℕ × ℕ)) (old new : RangeState) (rest : List (ℕ × ℕ)) where
  pub adds-all : AddsRanges firsts old xs new rest → IsUnionWith old.ranges xs new.ranges
  adds-all g n = g.leaves n ∙ ap (λ l. has_number old.ranges n || has_number l n) (all-given g.given xs rest g.yields)

  pub removes-all : RemovesRanges firsts old xs new rest → IsDifferenceWith old.ranges xs new.ranges
  removes-all g n = g.leaves n ∙ ap (λ l. has_number old.ranges n && not (has_number l n)) (all-given g.given xs rest g.yields)

  module _ (runs : AreRuns xs) (r : Refused ℕ ℕ) where
    pub adds-below : AddsRangesUntil firsts old xs new rest r → IsUnionBelow r.key old.ranges xs new.ranges
    adds-below g n = g.leaves n ∙ ap (λ b. has_number old.ranges n || b) (given-before xs runs g.given rest (r.key, r.value) g.yields n)

    pub adds-run : AddsRangesUntil firsts old xs new rest r → IsMaximalRun xs (r.key, r.value)
    adds-run g = refused-run xs runs g.given rest (r.key, r.value) g.yields

    pub removes-below : RemovesRangesUntil firsts old xs new rest r → IsDifferenceBelow r.key old.ranges xs new.ranges
    removes-below g n = g.leaves n ∙ ap (λ b. has_number old.ranges n && not b) (given-before xs runs g.given rest (r.key, r.value) g.yields n)

    pub removes-run : RemovesRangesUntil firsts old xs new rest r → IsMaximalRun xs (r.key, r.value)
    removes-run g = refused-run xs runs g.given rest (r.key, r.value) g.yields

-- ---- its gaps
not-missing : (a b : Bool) → (a && not (true && not b)) ≡ (a && b)
not-missing true true = refl
not-missing true false = refl
not-missing false b = refl

module _ (other gaps : List (ℕ × ℕ)) (end : ℕ) (are : AreGaps other 0 end gaps) (old new : RangeState) (rest : List (ℕ × ℕ)) where
  missing : (n : ℕ) → n < end → has_number gaps n ≡ (true && not (has_number other n))
  missing n below = are.missing n ∙ ap (λ b. b && not (has_number other n)) (within-from (0, end) n (omega arith) below)

  -- all numbers of the old set are below the end
  pub shares-all : ((n : ℕ) → has_number old.ranges n ≡ true → n < end) → RemovesRanges firsts old gaps new rest → IsIntersectionWith old.ranges other new.ranges
  shares-all within g n = removes-all gaps old new rest g n ∙ by (cases_lt n end) (cases_Bool (has_number old.ranges n)) where
    by : (n < end) ⊎ (end ≤ n) → (has_number old.ranges n ≡ true) ⊎ (has_number old.ranges n ≡ false)
        → (has_number old.ranges n && not (has_number gaps n)) ≡ (has_number old.ranges n && has_number other n)
    by (inl below) _ = rw (missing n below) (not-missing (has_number old.ranges n) (has_number other n))
    by (inr from) (inr none) = rw none refl
    by (inr from) (inl has) = let below = within n has in absurd (omega (arith, below, from))

  module _ (r : Refused ℕ ℕ) (g : RemovesRangesUntil firsts old gaps new rest r) where
    run : IsMaximalRun gaps (r.key, r.value)
    run = removes-run gaps old new rest are.runs r g

    start-below : r.key < end
    start-below =
        let has = run.inside r.key (within-from (r.key, r.value) r.key (omega arith) run.some) in
        within-high (0, end) r.key (and_parts (is_within (0, end) r.key) (not (has_number other r.key)) (sym (are.missing r.key) ∙ has)).0

    pub shares-below : IsIntersectionBelow r.key old.ranges other new.ranges
    shares-below n = removes-below gaps old new rest are.runs r g n ∙ by (cases_lt n r.key) where
      by : (n < r.key) ⊎ (r.key ≤ n)
          → (has_number old.ranges n && not (nat_lt n r.key && has_number gaps n)) ≡ (has_number old.ranges n && (nat_le r.key n || has_number other n))
      by (inl below) =
          rw (lt-ltb n r.key below, lt-leb r.key n below, missing n (omega (arith, below, start-below)))
          (not-missing (has_number old.ranges n) (has_number other n))
      by (inr from) = rw (le-ltb n r.key from, le-leb r.key n from) refl

    shares-none : OverlapsNone other r.key r.value
    shares-none n inside = negated (has_number other n) (and_parts (is_within (0, end) n) (not (has_number other n)) (sym (are.missing n) ∙ run.inside n inside)).1 where
      negated : (b : Bool) → not b ≡ true → b ≡ false
      negated true is = absurd (cc)
      negated false is = refl

    there : (n : ℕ) → n < end → has_number gaps n ≡ false → has_number other n ≡ true
    there n below out = positive (has_number other n) (sym (missing n below) ∙ out) where
      positive : (b : Bool) → (true && not b) ≡ false → b ≡ true
      positive true is = refl
      positive false is = absurd (cc)

    -- what is cut out of the old set ends below the end
    pub shares-gap : ((n : ℕ) → has_number old.ranges n ≡ true → n < end) → CutsOne new.ranges r.key r.value → IsGap other (r.key, r.value)
    shares-gap within cut =
        record {
          some = run.some;
          none = shares-none;
          after = elim (cases_lt r.value end) [
            | inl below ↦ there r.value below run.after
            | inr from ↦ let below = within r.value old-has in absurd (omega (arith, below, from))
          ];
          before = λ n is. there n (omega (arith, start-below, is)) (run.before n is);
        }
      where
        some : r.key < r.value
        some = run.some

        new-has : has_number new.ranges r.value ≡ true
        new-has = has-here new.ranges cut.index cut.range cut.here r.value (within-from cut.range r.value (omega (arith, cut.left, some)) cut.right)

        old-has : has_number old.ranges r.value ≡ true
        old-has = (and_parts (has_number old.ranges r.value) (nat_le r.key r.value || has_number other r.value) (sym (shares-below r.value) ∙ new-has)).0

-- a refusal of which two facts are known
pub both-refused : {T E : Type 0} (r : Result T E) (P Q R : E → Type 0) → ((e : E) → P e → Q e → R e) → IfErr r P → IfErr r Q → IfErr r R
both-refused (Ok x) P Q R f p q = tt
both-refused (Err e) P Q R f p q = f e p q

pub ruleset two_sets = (adds-all, adds-below, adds-run, removes-all, removes-below, removes-run, shares-all, shares-below, shares-gap)
