-- What callers conclude from the words of a set of ranges: which numbers are within a range, which ones are in the set after
-- an insertion, which ones the ranges have that meet some numbers, which ones are in a gap or below it, where a gap is, and that
-- `==` is equality of the ranges.
-- The ruleset gives `search` the laws on insertions, on ranges that meet, and on gaps.
use Rattle.std.proofs.Common.{◌≡◌, ◌≤◌, ◌<◌, ◌-◌, ◌∙◌, ℕ, suc, max, min, Bool, true, false, not, ◌&&◌, ◌||◌, nat_eq, nat_le, nat_lt, List, [], ◌∷◌, cond, refl, sym, ap, arith, ◌⊎◌, inl, inr, Decides}
use Rattle.std.proofs.lemmas.Bool.{and_from, and_parts, cases_Bool, cases_lt, eq-eqb, eqb-true, le-leb, leb-true, lt-ltb, ltb-true, or_from, or_left, or_right}
use Rattle.std.specs.Cmp.Lexicographic.{pointwise_decides}
use Rattle.btree_map.specs.Comparison.{pair_eq}
use Rattle.btree_range_set.specs.Gaps.{AreGaps, AreGapsOf}
use Rattle.btree_range_set.specs.SameRanges.{ranges_eq}
use Rattle.btree_range_set.specs.Ranges.{AreRunsFrom, IsUnion, Overlaps, OverlapsNone, has_number, is_within, meets, ranges_meeting}

-- ---- a number in a range
-- a number from a range's start to below its end is within it
pub within-from : (r : ℕ × ℕ) (n : ℕ) → r.0 ≤ n → n < r.1 → is_within r n ≡ true
within-from r n low high = and_from (nat_le r.0 n) (nat_lt n r.1) (le-leb r.0 n low) (lt-ltb n r.1 high)

-- a number within a range is not below its start
pub within-low : (r : ℕ × ℕ) (n : ℕ) → is_within r n ≡ true → r.0 ≤ n
within-low r n is = leb-true r.0 n (and_parts (nat_le r.0 n) (nat_lt n r.1) is).0

-- a number within a range is below its end
pub within-high : (r : ℕ × ℕ) (n : ℕ) → is_within r n ≡ true → n < r.1
within-high r n is = ltb-true n r.1 (and_parts (nat_le r.0 n) (nat_lt n r.1) is).1

-- a number that cannot be within a range is not
pub within-not : (r : ℕ × ℕ) (n : ℕ) → (is_within r n ≡ true → ⊥) → is_within r n ≡ false
within-not r n out = by (is_within r n) out where
  by : (b : Bool) → (b ≡ true → ⊥) → b ≡ false
  by true never = absurd (never refl)
  by false never = refl

-- one below the start is not
pub within-below : (r : ℕ × ℕ) (n : ℕ) → n < r.0 → is_within r n ≡ false
within-below r n below = within-not r n (λ is. omega (arith, below, within-low r n is))

-- nor is one from the end on
pub within-above : (r : ℕ × ℕ) (n : ℕ) → r.1 ≤ n → is_within r n ≡ false
within-above r n above = within-not r n (λ is. omega (arith, above, within-high r n is))

-- ---- insertions
-- a test that fails adds nothing to another
pub or_false : (b c : Bool) → c ≡ false → (b || c) ≡ b
or_false true c fails = refl
or_false false c fails = fails

-- a number that was inserted is in the set
pub found-inserted : (old new : List (ℕ × ℕ)) (s e n : ℕ) → IsUnion old s e new → is_within (s, e) n ≡ true → has_number new n ≡ true
found-inserted old new s e n is inside = is n ∙ or_right (has_number old n) (is_within (s, e) n) inside

-- another one is if it was
pub found-other : (old new : List (ℕ × ℕ)) (s e n : ℕ) → IsUnion old s e new → is_within (s, e) n ≡ false → has_number new n ≡ has_number old n
found-other old new s e n is out = is n ∙ or_false (has_number old n) (is_within (s, e) n) out

-- ---- the ranges that meet some numbers
-- of these numbers, the set has those that the ranges have
pub has-meeting : (s e n : ℕ) (xs : List (ℕ × ℕ)) → is_within (s, e) n ≡ true → has_number (ranges_meeting s e xs) n ≡ has_number xs n
has-meeting s e n [] inside = refl
has-meeting s e n (x ∷ xs) inside = by (meets s e x) refl (has-meeting s e n xs inside) where
  low : s ≤ n
  low = within-low (s, e) n inside

  high : n < e
  high = within-high (s, e) n inside

  outside : meets s e x ≡ false → (is_within x n ≡ true) ⊎ (is_within x n ≡ false) → is_within x n ≡ false
  outside is (inr out) = out
  outside is (inl within) =
      let yes = lt-ltb (max s x.0) (min e x.1) (omega (arith, low, high, within-low x n within, within-high x n within)) in
      absurd (cc)

  by : (b : Bool) → meets s e x ≡ b → has_number (ranges_meeting s e xs) n ≡ has_number xs n
      → has_number (cond b (x ∷ ranges_meeting s e xs) (ranges_meeting s e xs)) n ≡ (is_within x n || has_number xs n)
  by true is rest = ap (λ b. is_within x n || b) rest
  by false is rest = rest ∙ ap (λ b. b || has_number xs n) (sym (outside is (cases_Bool (is_within x n))))

-- if no range meets them, none of them is in the set
pub none-meet : (s e : ℕ) (xs : List (ℕ × ℕ)) → ranges_meeting s e xs ≡ [] → OverlapsNone xs s e
none-meet s e xs none n inside = sym (has-meeting s e n xs inside) ∙ ap (λ l. has_number l n) none

-- if one does, one of them is
pub some-meet : (s e : ℕ) (xs : List (ℕ × ℕ)) (x : ℕ × ℕ) (rest : List (ℕ × ℕ)) → ranges_meeting s e xs ≡ x ∷ rest → Overlaps xs s e
some-meet s e [] x rest is = absurd (cc)
some-meet s e (y ∷ ys) x rest is = by (meets s e y) refl is (λ later. some-meet s e ys x rest later) where
  by : (b : Bool) → meets s e y ≡ b → cond b (y ∷ ranges_meeting s e ys) (ranges_meeting s e ys) ≡ x ∷ rest
      → (ranges_meeting s e ys ≡ x ∷ rest → Overlaps ys s e) → Overlaps (y ∷ ys) s e
  by true sure _ _ =
      let lt = ltb-true (max s y.0) (min e y.1) sure in
      record {
        number = max s y.0;
        inside = within-from (s, e) (max s y.0) (omega arith) (omega (arith, lt));
        has = or_left (is_within y (max s y.0)) (has_number ys (max s y.0)) (within-from y (max s y.0) (omega arith) (omega (arith, lt)));
      }
  by false _ later some =
      let found = some later in
      record { number = found.number; inside = found.inside; has = or_right (is_within y found.number) (has_number ys found.number) found.has }

-- ---- gaps
-- runs from a number on have none below it
pub none-below : (low : ℕ) (xs : List (ℕ × ℕ)) → AreRunsFrom low xs → (n : ℕ) → n < low → has_number xs n ≡ false
none-below low [] runs n below = refl
none-below low (x ∷ xs) runs n below =
    or_from (is_within x n) (has_number xs n) (within-below x n (omega (arith, below, runs.0)))
    (none-below (suc x.1) xs runs.2 n (omega (arith, below, runs.0, runs.1)))

-- they are runs from a lower number on, too
pub runs-weaken : (low less : ℕ) (xs : List (ℕ × ℕ)) → less ≤ low → AreRunsFrom low xs → AreRunsFrom less xs
runs-weaken low less [] le runs = tt
runs-weaken low less (x ∷ xs) le runs = (omega (arith, le, runs.0), runs.1, runs.2)

full : (gap inside has : Bool) → gap ≡ (inside && not has) → gap ≡ false → inside ≡ true → has ≡ true
full false true true _ _ _ = refl
full false true false is _ _ = absurd (cc)
full false false has _ _ is = absurd (cc)
full true inside has _ is _ = absurd (cc)

free : (gap inside has : Bool) → gap ≡ (inside && not has) → gap ≡ true → (inside ≡ true) × (has ≡ false)
free true true false _ _ = (refl, refl)
free true true true is _ = absurd (cc)
free true false has is _ = absurd (cc)
free false inside has _ is = absurd (cc)

-- of gaps: if there is none, each of the numbers passes the test
pub gaps-none : (has : ℕ → Bool) (s e n : ℕ) → AreGapsOf has s e [] → is_within (s, e) n ≡ true → has n ≡ true
gaps-none has s e n gaps inside = full false (is_within (s, e) n) (has n) (gaps.missing n) refl inside

-- a number of the first one is one of them, and does not
pub gaps-first : (has : ℕ → Bool) (s e n : ℕ) (gap : ℕ × ℕ) (rest : List (ℕ × ℕ)) → AreGapsOf has s e (gap ∷ rest)
    → is_within gap n ≡ true → (is_within (s, e) n ≡ true) × (has n ≡ false)
gaps-first has s e n gap rest gaps inside =
    free (has_number (gap ∷ rest) n) (is_within (s, e) n) (has n) (gaps.missing n)
    (or_left (is_within gap n) (has_number rest n) inside)

-- each of them that is below it does
pub gaps-below : (has : ℕ → Bool) (s e n : ℕ) (gap : ℕ × ℕ) (rest : List (ℕ × ℕ)) → AreGapsOf has s e (gap ∷ rest)
    → s ≤ n → n < gap.0 → has n ≡ true
gaps-below has s e n gap rest gaps low below =
    full (has_number (gap ∷ rest) n) (is_within (s, e) n) (has n) (gaps.missing n)
    (none-below gap.0 (gap ∷ rest) (omega arith, gaps.runs.1, gaps.runs.2) n below)
    (within-from (s, e) n low (omega (arith, below, within-high (s, e) gap.0 first.0)))
  where
    first : (is_within (s, e) gap.0 ≡ true) × (has gap.0 ≡ false)
    first = gaps-first has s e gap.0 gap rest gaps (within-from gap gap.0 (omega arith) gaps.runs.1)

-- it is not empty, and lies within the numbers
pub gaps-some : (has : ℕ → Bool) (s e : ℕ) (gap : ℕ × ℕ) (rest : List (ℕ × ℕ)) → AreGapsOf has s e (gap ∷ rest)
    → (s ≤ gap.0) × (gap.0 < gap.1) × (gap.1 ≤ e)
gaps-some has s e gap rest gaps = (low, some, high) where
  some : gap.0 < gap.1
  some = gaps.runs.1

  inside : (n : ℕ) → gap.0 ≤ n → n < gap.1 → is_within (s, e) n ≡ true
  inside n from to = (gaps-first has s e n gap rest gaps (within-from gap n from to)).0

  low : s ≤ gap.0
  low = within-low (s, e) gap.0 (inside gap.0 (omega arith) some)

  high : gap.1 ≤ e
  high = omega (arith, some, within-high (s, e) (gap.1 - 1) (inside (gap.1 - 1) (omega (arith, some)) (omega (arith, some))))

-- those after it are the gaps from its end on
pub gaps-rest : (has : ℕ → Bool) (s e : ℕ) (gap : ℕ × ℕ) (rest : List (ℕ × ℕ)) → AreGapsOf has s e (gap ∷ rest) → AreGapsOf has gap.1 e rest
gaps-rest has s e gap rest gaps = record { runs = runs-later; missing = λ n. by n (cases_lt n gap.1) } where
  bounds : (s ≤ gap.0) × (gap.0 < gap.1) × (gap.1 ≤ e)
  bounds = gaps-some has s e gap rest gaps

  runs-later : AreRunsFrom 0 rest
  runs-later = runs-weaken (suc gap.1) 0 rest (omega arith) gaps.runs.2

  by : (n : ℕ) → (n < gap.1) ⊎ (gap.1 ≤ n) → has_number rest n ≡ (is_within (gap.1, e) n && not (has n))
  by n (inl below) = none-below (suc gap.1) rest gaps.runs.2 n (omega (arith, below)) ∙ ap (λ b. b && not (has n)) (sym (within-below (gap.1, e) n below))
  by n (inr from) =
      ap (λ b. b || has_number rest n) (sym (within-above gap n from)) ∙ gaps.missing n
      ∙ ap (λ b. (b && nat_lt n e) && not (has n)) (le-leb s n (omega (arith, bounds.0, bounds.1, from)) ∙ sym (le-leb gap.1 n from))

-- if there is no gap, each of the numbers is in the set
pub no-gap : (s e n : ℕ) (xs : List (ℕ × ℕ)) → AreGaps xs s e [] → is_within (s, e) n ≡ true → has_number xs n ≡ true
no-gap s e n xs gaps inside = gaps-none (has_number xs) s e n gaps inside

-- a number of the first gap is one of them, and not in the set
pub in-gap : (s e n : ℕ) (xs : List (ℕ × ℕ)) (gap : ℕ × ℕ) (rest : List (ℕ × ℕ)) → AreGaps xs s e (gap ∷ rest)
    → is_within gap n ≡ true → (is_within (s, e) n ≡ true) × (has_number xs n ≡ false)
in-gap s e n xs gap rest gaps inside = gaps-first (has_number xs) s e n gap rest gaps inside

-- each of them that is below the first gap is in the set
pub below-gap : (s e n : ℕ) (xs : List (ℕ × ℕ)) (gap : ℕ × ℕ) (rest : List (ℕ × ℕ)) → AreGaps xs s e (gap ∷ rest)
    → s ≤ n → n < gap.0 → has_number xs n ≡ true
below-gap s e n xs gap rest gaps low below = gaps-below (has_number xs) s e n gap rest gaps low below

-- the first gap is not empty, and lies within the numbers
pub gap-some : (s e : ℕ) (xs : List (ℕ × ℕ)) (gap : ℕ × ℕ) (rest : List (ℕ × ℕ)) → AreGaps xs s e (gap ∷ rest)
    → (s ≤ gap.0) × (gap.0 < gap.1) × (gap.1 ≤ e)
gap-some s e xs gap rest gaps = gaps-some (has_number xs) s e gap rest gaps

-- those after it are the gaps from its end on
pub gap-rest : (s e : ℕ) (xs : List (ℕ × ℕ)) (gap : ℕ × ℕ) (rest : List (ℕ × ℕ)) → AreGaps xs s e (gap ∷ rest) → AreGaps xs gap.1 e rest
gap-rest s e xs gap rest gaps = gaps-rest (has_number xs) s e gap rest gaps

pub ruleset range_laws = (within-below, within-above, found-inserted, found-other, has-meeting, none-meet, some-meet, no-gap, in-gap, below-gap, gap-some)

-- ---- equal sets
range-equal : (p q : ℕ × ℕ) → Decides (pair_eq nat_eq nat_eq p q) (p ≡ q)
range-equal p q = (
  λ is. let parts = and_parts (nat_eq p.0 q.0) (nat_eq p.1 q.1) is in
      let start = eqb-true p.0 q.0 parts.0 in
      let end = eqb-true p.1 q.1 parts.1 in
      λ i. (start i, end i),
  λ same. and_from (nat_eq p.0 q.0) (nat_eq p.1 q.1) (eq-eqb p.0 q.0 (ap (λ (z : ℕ × ℕ). z.0) same)) (eq-eqb p.1 q.1 (ap (λ (z : ℕ × ℕ). z.1) same)),
)

-- sets are `==` exactly if their ranges are equal
pub ranges-equal : (xs ys : List (ℕ × ℕ)) → Decides (ranges_eq xs ys) (xs ≡ ys)
ranges-equal = pointwise_decides range-equal
