-- What a range tells of its keys: each is between its bounds, and the pairs outside are all others. A law on the first or the
-- last key takes the clause of `range` and that of a step, so that `search` applies it.
use Rattle.std.proofs.Common.{◌≡◌, ◌≤◌, ◌<◌, ◌+◌, ℕ, suc, Bool, true, false, cond, not, List, [], ◌∷◌, ◌++◌, length, filter, refl, sym, arith}
use Rattle.std.proofs.lemmas.List.Elements.{All-head, All-same, All-tail, filter_passes}
use Rattle.std.specs.BTreeMap.Range.{entries_between, range_contains}
use Rattle.std.specs.declared.cmp.Ordering.{Ordering}
use Rattle.std.specs.declared.ops.Bound.{Bound}
use Rattle.std.specs.declared.ops.Bound.TheVariants.{Excluded, Included}
use Rattle.std.specs.List.{All}
use Rattle.std.specs.Ordering.{nat_cmp}
use Rattle.btree_map.specs.Removal.{pairs_outside}

module _ {K V : Type 0} (cmp : K → K → Ordering) (low high : Bound K) (xs left rest : List (K × V)) (x : K × V) (is : left ≡ entries_between cmp low high xs) where
  abbrev Is : K × V → Type 0
  Is y = range_contains cmp low high y.0 ≡ true

  each : All Is left
  each = All-same Is left _ is (filter_passes (λ y. range_contains cmp low high y.0) xs)

  end_of : (ys : List (K × V)) → All Is (ys ++ x ∷ []) → Is x
  end_of [] all = All-head Is x [] all
  end_of (y ∷ ys) all = end_of ys (All-tail Is y (ys ++ x ∷ []) all)

  -- the first key of a range is between its bounds
  pub first-between : left ≡ x ∷ rest → range_contains cmp low high x.0 ≡ true
  first-between steps = All-head Is x rest (All-same Is _ _ (sym steps) each)

  -- so is the last one
  pub last-between : left ≡ rest ++ x ∷ [] → range_contains cmp low high x.0 ≡ true
  last-between steps = end_of rest (All-same Is _ _ (sym steps) each)

-- ---- how many there are
either_part : {X : Type 0} (test : X → Bool) (xs : List X) → length (filter (λ x. not (test x)) xs) + length (filter test xs) ≡ length xs
either_part test [] = refl
either_part test (x ∷ xs) = by (test x) (either_part test xs) where
  by : (passes : Bool) → length (filter (λ y. not (test y)) xs) + length (filter test xs) ≡ length xs
      → length (cond (not passes) (x ∷ filter (λ y. not (test y)) xs) (filter (λ y. not (test y)) xs)) + length (cond passes (x ∷ filter test xs) (filter test xs)) ≡ suc (length xs)
  by true rest = omega (arith, rest)
  by false rest = omega (arith, rest)

-- the pairs outside a range and those in it are all pairs
pub outside-length : {K V : Type 0} (cmp : K → K → Ordering) (low high : Bound K) (xs : List (K × V))
    → length (pairs_outside cmp low high xs) + length (entries_between cmp low high xs) ≡ length xs
outside-length cmp low high xs = either_part (λ x. range_contains cmp low high x.0) xs

-- ---- keys that are numbers
module _ {V : Type 0} (xs left rest : List (ℕ × V)) (x : ℕ × V) where
  -- the first key of a range from a number on is not below it
  pub first-from : (low : ℕ) (high : Bound ℕ) → left ≡ entries_between nat_cmp (Included low) high xs → left ≡ x ∷ rest → low ≤ x.0
  first-from low high is steps =
      let within = first-between nat_cmp (Included low) high xs left rest x is steps in
      grind (arith, within)

  -- that of a range up to a number is below it
  pub first-below : (low : Bound ℕ) (high : ℕ) → left ≡ entries_between nat_cmp low (Excluded high) xs → left ≡ x ∷ rest → x.0 < high
  first-below low high is steps =
      let within = first-between nat_cmp low (Excluded high) xs left rest x is steps in
      grind (arith, within)

  -- the last key of a range from a number on is not below it
  pub last-from : (low : ℕ) (high : Bound ℕ) → left ≡ entries_between nat_cmp (Included low) high xs → left ≡ rest ++ x ∷ [] → low ≤ x.0
  last-from low high is steps =
      let within = last-between nat_cmp (Included low) high xs left rest x is steps in
      grind (arith, within)

  -- that of a range up to a number is below it
  pub last-below : (low : Bound ℕ) (high : ℕ) → left ≡ entries_between nat_cmp low (Excluded high) xs → left ≡ rest ++ x ∷ [] → x.0 < high
  last-below low high is steps =
      let within = last-between nat_cmp low (Excluded high) xs left rest x is steps in
      grind (arith, within)

pub ruleset between_laws = (first-from, first-below, last-from, last-below)
