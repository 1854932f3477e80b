-- What callers conclude from the words of a map of ranges: which numbers are between two others, which values they have after
-- an insertion, how many have one after a call, which values the ranges have that meet some numbers, which numbers are in a gap
-- or below it, where a gap is, how many parts an update has, and that `==` is equality of the ranges.
-- The ruleset gives `search` the laws on insertions, on ranges that meet, on gaps and on parts.
use Rattle.std.proofs.Common.{◌≡◌, ◌≤◌, ◌<◌, ◌+◌, ◌-◌, ◌∙◌, ◌&&◌, ◌||◌, not, ℕ, max, min, Bool, true, false, is_some, nat_eq, nat_le, nat_lt, List, [], ◌∷◌, cond, Option, Some, None, refl, sym, ap, arith, ◌⊎◌, inl, inr, Decides}
use Rattle.std.proofs.lemmas.Bool.{and_from, and_parts, cases_Bool, eq-eqb, eqb-true, le-leb, leb-true, lt-ltb, ltb-true, or_right}
use Rattle.std.proofs.lemmas.List.{length-map}
use Rattle.std.proofs.lemmas.List.Sums.{count_by-le-length, length-filter}
use Rattle.std.specs.Prelude.{length}
use Rattle.std.specs.Cmp.Lexicographic.{pointwise_decides}
use Rattle.btree_map.specs.Comparison.{pair_eq}
use Rattle.btree_range_map.specs.declared.span.Span.{Span}
use Rattle.btree_range_set.specs.CallerLaws.{gaps-below, gaps-first, gaps-none, gaps-rest, gaps-some, or_false, within-above, within-below}
use Rattle.btree_range_set.specs.CountLaws.{count-added, count-taken}
use Rattle.btree_range_map.specs.Counts.{count_between}
use Rattle.btree_range_map.specs.Gaps.{AreGaps}
use Rattle.btree_range_map.specs.SameRanges.{ranges_eq, span_eq}
use Rattle.btree_range_map.specs.Ranges.{IsAssigned, IsCleared, Overlaps, OverlapsNone, TellsSame, has_value, is_between, is_within, meets, ranges_meeting, value_at}
use Rattle.btree_range_map.specs.Updates.{part_between, parts_between}

-- ---- a number between two others
-- one from a start to below an end is between them
pub between-from : (s e n : ℕ) → s ≤ n → n < e → is_between s e n ≡ true
between-from s e n low high = and_from (nat_le s n) (nat_lt n e) (le-leb s n low) (lt-ltb n e high)

-- it is not below the start
pub between-low : (s e n : ℕ) → is_between s e n ≡ true → s ≤ n
between-low s e n is = leb-true s n (and_parts (nat_le s n) (nat_lt n e) is).0

-- it is below the end
pub between-high : (s e n : ℕ) → is_between s e n ≡ true → n < e
between-high s e n is = ltb-true n e (and_parts (nat_le s n) (nat_lt n e) is).1

-- one below the start is not between them
pub between-below : (s e n : ℕ) → n < s → is_between s e n ≡ false
between-below s e n below = within-below (s, e) n below

-- nor is one from the end on
pub between-above : (s e n : ℕ) → e ≤ n → is_between s e n ≡ false
between-above s e n above = within-above (s, e) n above

-- ---- insertions
module _ {V : Type 0} (old new : List (ℕ × Span V)) (s e : ℕ) (value : V) (is : IsAssigned old s e value new) where
  -- a number that was inserted has the value
  pub found-inserted : (n : ℕ) → is_between s e n ≡ true → value_at new n ≡ Some value
  found-inserted n inside = is n ∙ ap (λ b. cond b (Some value) (value_at old n)) inside

  -- another one has what it had
  pub found-other : (n : ℕ) → is_between s e n ≡ false → value_at new n ≡ value_at old n
  found-other n out = is n ∙ ap (λ b. cond b (Some value) (value_at old n)) out

  -- a number has a value if it had one, or was inserted
  pub has-inserted : (n : ℕ) → has_value new n ≡ (has_value old n || is_between s e n)
  has-inserted n = by (cases_Bool (is_between s e n)) where
    by : (is_between s e n ≡ true) ⊎ (is_between s e n ≡ false) → has_value new n ≡ (has_value old n || is_between s e n)
    by (inl inside) = ap (λ v. is_some v) (found-inserted n inside) ∙ sym (or_right (has_value old n) (is_between s e n) inside)
    by (inr out) = ap (λ v. is_some v) (found-other n out) ∙ sym (or_false (has_value old n) (is_between s e n) out)

  -- if the numbers had no value, so many more have one
  pub count-inserted : (low high : ℕ) → low ≤ s → s ≤ e → e ≤ high → ((n : ℕ) → is_between s e n ≡ true → has_value old n ≡ false)
      → count_between new low high ≡ count_between old low high + (e - s)
  count-inserted low high from some to free =
      count-added (has_value old) (has_value new) low (high - low) s (e - s) from (omega (arith, from, some, to))
      (λ n inside. free n (ap (λ (k : ℕ). is_between s k n) last ∙ inside))
      (λ n. has-inserted n ∙ ap (λ (k : ℕ). has_value old n || is_between s k n) last)
    where
      last : e ≡ s + (e - s)
      last = omega (arith, some)

-- ---- removals
module _ {V : Type 0} where
  cleared : (value : Option V) (b : Bool) → is_some (cond b None value) ≡ (is_some value && not b)
  cleared None true = refl
  cleared None false = refl
  cleared (Some v) true = refl
  cleared (Some v) false = refl

  -- after a removal so many fewer numbers have a value as had one of those
  pub count-removed : (old new : List (ℕ × Span V)) (s e : ℕ) → IsCleared old s e new → (low high : ℕ) → low ≤ s → s ≤ e → e ≤ high
      → count_between new low high + count_between old s e ≡ count_between old low high
  count-removed old new s e is low high from some to =
      count-taken (has_value old) (has_value new) low (high - low) s (e - s) from (omega (arith, from, some, to))
      (λ n. ap (λ v. is_some v) (is n) ∙ cleared (value_at old n) (is_between s e n) ∙ ap (λ (k : ℕ). has_value old n && not (is_between s k n)) last)
    where
      last : e ≡ s + (e - s)
      last = omega (arith, some)

module _ {V : Type 0} where
  -- ---- the ranges that meet some numbers
  -- a number in the first range has its value
  first-has : (x : ℕ × Span V) (xs : List (ℕ × Span V)) (n : ℕ) → is_within x n ≡ true → value_at (x ∷ xs) n ≡ Some x.1.value
  first-has x xs n inside = rw inside refl

  -- another one has the value that the other ranges give it
  first-lacks : (x : ℕ × Span V) (xs : List (ℕ × Span V)) (n : ℕ) → is_within x n ≡ false → value_at (x ∷ xs) n ≡ value_at xs n
  first-lacks x xs n outside = rw outside refl

  -- of these numbers, each has the value that the ranges give it
  pub value-meeting : (s e n : ℕ) (xs : List (ℕ × Span V)) → is_between s e n ≡ true → value_at (ranges_meeting s e xs) n ≡ value_at xs n
  value-meeting s e n [] inside = refl
  value-meeting s e n (x ∷ xs) inside = by (meets s e x) refl (value-meeting s e n xs inside) where
    low : s ≤ n
    low = between-low s e n inside

    high : n < e
    high = between-high s e n inside

    outside : meets s e x ≡ false → (is_within x n ≡ true) ⊎ (is_within x n ≡ false) → is_within x n ≡ false
    outside is (inr out) = out
    outside is (inl within) =
        let yes = lt-ltb (max s x.0) (min e x.1.end) (omega (arith, low, high, between-low x.0 x.1.end n within, between-high x.0 x.1.end n within)) in
        absurd (cc)

    by : (b : Bool) → meets s e x ≡ b → value_at (ranges_meeting s e xs) n ≡ value_at xs n
        → value_at (cond b (x ∷ ranges_meeting s e xs) (ranges_meeting s e xs)) n ≡ cond (is_within x n) (Some x.1.value) (value_at xs n)
    by true is rest = ap (λ v. cond (is_within x n) (Some x.1.value) v) rest
    by false is rest = rest ∙ sym (first-lacks x xs n (outside is (cases_Bool (is_within x n))))

  -- if no range meets them, none of them has a value
  pub none-meet : (s e : ℕ) (xs : List (ℕ × Span V)) → ranges_meeting s e xs ≡ [] → OverlapsNone xs s e
  none-meet s e xs none n inside = sym (value-meeting s e n xs inside) ∙ ap (λ l. value_at l n) none

  -- if one does, one of them has a value
  pub some-meet : (s e : ℕ) (xs : List (ℕ × Span V)) (x : ℕ × Span V) (rest : List (ℕ × Span V)) → ranges_meeting s e xs ≡ x ∷ rest → Overlaps xs s e
  some-meet s e [] x rest is = absurd (cc)
  some-meet s e (y ∷ ys) x rest is = by (meets s e y) refl is (λ later. some-meet s e ys x rest later) where
    found : (n : ℕ) (v : V) → is_between s e n ≡ true → value_at ys n ≡ Some v → (is_within y n ≡ true) ⊎ (is_within y n ≡ false) → Overlaps (y ∷ ys) s e
    found n v inside has (inl within) = record { number = n; value = y.1.value; inside = inside; has = first-has y ys n within }
    found n v inside has (inr out) = record { number = n; value = v; inside = inside; has = first-lacks y ys n out ∙ has }

    by : (b : Bool) → meets s e y ≡ b → cond b (y ∷ ranges_meeting s e ys) (ranges_meeting s e ys) ≡ x ∷ rest
        → (ranges_meeting s e ys ≡ x ∷ rest → Overlaps ys s e) → Overlaps (y ∷ ys) s e
    by true sure _ _ =
        let lt = ltb-true (max s y.0) (min e y.1.end) sure in
        record {
          number = max s y.0;
          value = y.1.value;
          inside = between-from s e (max s y.0) (omega arith) (omega (arith, lt));
          has = first-has y ys (max s y.0) (between-from y.0 y.1.end (max s y.0) (omega arith) (omega (arith, lt)));
        }
    by false _ later some = let one = some later in found one.number one.value one.inside one.has (cases_Bool (is_within y one.number))

-- ---- gaps
module _ {V : Type 0} where
  valueless : (value : Option V) → is_some value ≡ false → value ≡ None
  valueless None _ = refl
  valueless (Some v) is = absurd (cc)

  -- if there is no gap, each of the numbers has a value
  pub no-gap : (s e n : ℕ) (xs : List (ℕ × Span V)) → AreGaps xs s e [] → is_between s e n ≡ true → is_some (value_at xs n) ≡ true
  no-gap s e n xs gaps inside = gaps-none (has_value xs) s e n gaps inside

  -- a number of the first gap is one of them, and has none
  pub in-gap : (s e n : ℕ) (xs : List (ℕ × Span V)) (gap : ℕ × ℕ) (rest : List (ℕ × ℕ)) → AreGaps xs s e (gap ∷ rest)
      → is_between gap.0 gap.1 n ≡ true → (is_between s e n ≡ true) × (value_at xs n ≡ None)
  in-gap s e n xs gap rest gaps inside =
      let is = gaps-first (has_value xs) s e n gap rest gaps inside in
      (is.0, valueless (value_at xs n) is.1)

  -- each of them that is below the first gap has one
  pub below-gap : (s e n : ℕ) (xs : List (ℕ × Span V)) (gap : ℕ × ℕ) (rest : List (ℕ × ℕ)) → AreGaps xs s e (gap ∷ rest)
      → s ≤ n → n < gap.0 → is_some (value_at xs n) ≡ true
  below-gap s e n xs gap rest gaps low below = gaps-below (has_value xs) s e n gap rest gaps low below

  -- the first gap is not empty, and lies within the numbers
  pub gap-some : (s e : ℕ) (xs : List (ℕ × Span V)) (gap : ℕ × ℕ) (rest : List (ℕ × ℕ)) → AreGaps xs s e (gap ∷ rest)
      → (s ≤ gap.0) × (gap.0 < gap.1) × (gap.1 ≤ e)
  gap-some s e xs gap rest gaps = gaps-some (has_value xs) s e gap rest gaps

  -- those after it are the gaps from its end on
  pub gap-rest : (s e : ℕ) (xs : List (ℕ × Span V)) (gap : ℕ × ℕ) (rest : List (ℕ × ℕ)) → AreGaps xs s e (gap ∷ rest) → AreGaps xs gap.1 e rest
  gap-rest s e xs gap rest gaps = gaps-rest (has_value xs) s e gap rest gaps

  -- ---- updates
  -- there are at most as many parts as ranges
  pub parts-few : (s e : ℕ) (xs : List (ℕ × Span V)) → length (parts_between s e xs) ≤ length xs
  parts-few s e xs =
      let mapped : length (parts_between s e xs) ≡ length (ranges_meeting s e xs) = length-map (ranges_meeting s e xs) (part_between s e) in
      let kept = length-filter (meets s e) xs in
      let most = count_by-le-length (meets s e) xs in
      omega (arith, mapped, kept, most)

pub ruleset range_laws = (between-below, between-above, found-inserted, found-other, value-meeting, none-meet, some-meet, no-gap, in-gap, below-gap, gap-some, parts-few)

-- ---- equal maps
module _ {V : Type 0} (eq : V → V → Bool) (tells : TellsSame eq) where
  span-equal : (x y : Span V) → Decides (span_eq eq x y) (x ≡ y)
  span-equal x y = (
    λ is. let parts = and_parts (nat_eq x.end y.end) (eq x.value y.value) is in
        let end = eqb-true x.end y.end parts.0 in
        let value = (tells x.value y.value).0 parts.1 in
        λ i. record { end = end i; value = value i },
    λ same. and_from (nat_eq x.end y.end) (eq x.value y.value)
        (eq-eqb x.end y.end (ap (λ (z : Span V). z.end) same)) ((tells x.value y.value).1 (ap (λ (z : Span V). z.value) same)),
  )

  range-equal : (p q : ℕ × Span V) → Decides (pair_eq nat_eq (span_eq eq) p q) (p ≡ q)
  range-equal p q = (
    λ is. let parts = and_parts (nat_eq p.0 q.0) (span_eq eq p.1 q.1) is in
        let start = eqb-true p.0 q.0 parts.0 in
        let span = (span-equal p.1 q.1).0 parts.1 in
        λ i. (start i, span i),
    λ same. and_from (nat_eq p.0 q.0) (span_eq eq p.1 q.1)
        (eq-eqb p.0 q.0 (ap (λ (z : ℕ × Span V). z.0) same)) ((span-equal p.1 q.1).1 (ap (λ (z : ℕ × Span V). z.1) same)),
  )

  -- maps are `==` exactly if their ranges are equal
  pub ranges-equal : (xs ys : List (ℕ × Span V)) → Decides (ranges_eq eq xs ys) (xs ≡ ys)
  ranges-equal = pointwise_decides range-equal
