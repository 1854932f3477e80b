-- What a count of numbers is, from which of them pass the test.
use Rattle.std.proofs.Common.{◌≡◌, ◌≤◌, ◌<◌, ◌+◌, ◌-◌, ◌∙◌, ◌||◌, ◌&&◌, not, ℕ, zero, suc, Bool, true, false, cond, List, refl, ap, arith}
use Rattle.std.proofs.lemmas.Bool.{and_right, or_right}
use Rattle.btree_range_set.specs.CallerLaws.{or_false, within-above, within-below, within-from}
use Rattle.btree_range_set.specs.Counts.{count_between, count_from}
use Rattle.btree_range_set.specs.Ranges.{IsDifference, IsUnion, has_number, is_within}

abbrev one : Bool → ℕ
one b = cond b 1 0

least : (b : Bool) → one b ≤ 1
least true = let is : one true ≡ 1 = refl in omega (arith, is)
least false = let is : one false ≡ 0 = refl in omega (arith, is)

either : (b : Bool) → one b + one (not b) ≡ 1
either true = refl
either false = refl

module _ (test : ℕ → Bool) where
  -- at most all of them pass
  pub count-most : (start count : ℕ) → count_from test start count ≤ count
  count-most start zero = omega arith
  count-most start (suc count) = let rest = count-most (suc start) count in let first = least (test start) in omega arith

  -- of numbers that follow one another the counts are added
  pub count-split : (start first more : ℕ) → count_from test start (first + more) ≡ count_from test start first + count_from test (start + first) more
  count-split start zero more =
      let all : 0 + more ≡ more = omega arith in
      let here : start + 0 ≡ start = omega arith in
      rw (all, here) (let sum : count_from test start more ≡ 0 + count_from test start more = omega arith in sum)
  count-split start (suc first) more =
      let next : count_from test (suc start) (first + more) ≡ count_from test (suc start) first + count_from test (suc start + first) more = count-split (suc start) first more in
      let here : count_from test (suc start + first) more ≡ count_from test (start + suc first) more = ap (λ (s : ℕ). count_from test s more) (let same : suc start + first ≡ start + suc first = omega arith in same) in
      let longer : suc first + more ≡ suc (first + more) = omega arith in
      rw longer (let sum : one (test start) + count_from test (suc start) (first + more) ≡ (one (test start) + count_from test (suc start) first) + count_from test (start + suc first) more = omega (arith, next, here) in sum)

  -- if none passes, the count is 0
  pub count-none : (start count : ℕ) → ((n : ℕ) → start ≤ n → n < start + count → test n ≡ false) → count_from test start count ≡ 0
  count-none start zero fails = refl
  count-none start (suc count) fails =
      let here : one (test start) ≡ 0 = ap one (fails start (omega arith) (omega arith)) in
      let rest : count_from test (suc start) count ≡ 0 = count-none (suc start) count (λ n low high. fails n (omega arith) (omega arith)) in
      omega (arith, here, rest)

  -- if each passes, it is how many there are
  pub count-all : (start count : ℕ) → ((n : ℕ) → start ≤ n → n < start + count → test n ≡ true) → count_from test start count ≡ count
  count-all start zero passes = refl
  count-all start (suc count) passes =
      let here : one (test start) ≡ 1 = ap one (passes start (omega arith) (omega arith)) in
      let rest : count_from test (suc start) count ≡ count = count-all (suc start) count (λ n low high. passes n (omega arith) (omega arith)) in
      omega (arith, here, rest)

  -- those that pass and those that do not are all of them
  pub count-not : (start count : ℕ) → count_from test start count + count_from (λ n. not (test n)) start count ≡ count
  count-not start zero = omega arith
  count-not start (suc count) =
      let rest : count_from test (suc start) count + count_from (λ n. not (test n)) (suc start) count ≡ count = count-not (suc start) count in
      let here : one (test start) + one (not (test start)) ≡ 1 = either (test start) in
      omega (arith, rest, here)

-- if the tests agree on them, the counts do
pub count-same : (test other : ℕ → Bool) (start count : ℕ) → ((n : ℕ) → start ≤ n → n < start + count → test n ≡ other n) → count_from test start count ≡ count_from other start count
count-same test other start zero same = refl
count-same test other start (suc count) same =
    let here : one (test start) ≡ one (other start) = ap one (same start (omega arith) (omega arith)) in
    let rest = count-same test other (suc start) count (λ n low high. same n (omega arith) (omega arith)) in
    omega (arith, here, rest)

and_true : (a : Bool) → (a && true) ≡ a
and_true true = refl
and_true false = refl

module _ (start count at size : ℕ) (from : start ≤ at) (to : at + size ≤ start + count) where
  -- a count is that of the numbers before the `size` ones from `at` on, of these, and of those after them
  count-around : (test : ℕ → Bool)
      → count_from test start count ≡ count_from test start (at - start) + (count_from test at size + count_from test (at + size) (count - ((at - start) + size)))
  count-around test =
      let first = at - start in
      let more = count - (first + size) in
      let parts : count ≡ first + (size + more) = omega (arith, from, to) in
      let at_run : start + first ≡ at = omega (arith, from) in
      let one : count_from test start (first + (size + more)) ≡ count_from test start first + count_from test (start + first) (size + more) = count-split test start first (size + more) in
      let two : count_from test at (size + more) ≡ count_from test at size + count_from test (at + size) more = count-split test at size more in
      ap (count_from test start) parts ∙ one ∙ rw (at_run, two) refl

  -- if tests agree but on the `size` numbers from `at` on, their counts differ by those of these
  pub count-changed : (old new : ℕ → Bool) → ((n : ℕ) → is_within (at, at + size) n ≡ false → new n ≡ old n)
      → count_from new start count + count_from old at size ≡ count_from old start count + count_from new at size
  count-changed old new same =
      let before = count-same new old start (at - start) (λ n low high. same n (within-below (at, at + size) n (omega (arith, high, from)))) in
      let after = count-same new old (at + size) (count - ((at - start) + size)) (λ n low high. same n (within-above (at, at + size) n low)) in
      let of_new = count-around new in
      let of_old = count-around old in
      omega (arith, before, after, of_new, of_old)

-- if the `size` numbers from `at` on did not pass and do now, and the others are as they were, there are so many more
pub count-added : (old new : ℕ → Bool) (start count at size : ℕ) → start ≤ at → at + size ≤ start + count
    → ((n : ℕ) → is_within (at, at + size) n ≡ true → old n ≡ false) → ((n : ℕ) → new n ≡ (old n || is_within (at, at + size) n))
    → count_from new start count ≡ count_from old start count + size
count-added old new start count at size from to free is =
    let changed = count-changed start count at size from to old new (λ n out. is n ∙ or_false (old n) (is_within (at, at + size) n) out) in
    let none = count-none old at size (λ n low high. free n (within-from (at, at + size) n low high)) in
    let all = count-all new at size (λ n low high. is n ∙ or_right (old n) (is_within (at, at + size) n) (within-from (at, at + size) n low high)) in
    omega (arith, changed, none, all)

-- if these do not pass now, and the others are as they were, there are so many fewer as passed of these
pub count-taken : (old new : ℕ → Bool) (start count at size : ℕ) → start ≤ at → at + size ≤ start + count
    → ((n : ℕ) → new n ≡ (old n && not (is_within (at, at + size) n)))
    → count_from new start count + count_from old at size ≡ count_from old start count
count-taken old new start count at size from to is =
    let changed = count-changed start count at size from to old new (λ n out. is n ∙ ap (λ (b : Bool). old n && not b) out ∙ and_true (old n)) in
    let none = count-none new at size (λ n low high. is n ∙ and_right (old n) (not (is_within (at, at + size) n)) (ap not (within-from (at, at + size) n low high))) in
    omega (arith, changed, none)

module _ (old new : List (ℕ × ℕ)) (s e : ℕ) where
  last : s ≤ e → e ≡ s + (e - s)
  last some = omega (arith, some)

  -- if none of the numbers was in the set, so many more are in it after an insertion
  pub count-inserted : IsUnion old s e new → (low high : ℕ) → low ≤ s → s ≤ e → e ≤ high → ((n : ℕ) → is_within (s, e) n ≡ true → has_number old n ≡ false)
      → count_between new low high ≡ count_between old low high + (e - s)
  count-inserted is low high from some to free =
      count-added (has_number old) (has_number new) low (high - low) s (e - s) from (omega (arith, from, some, to))
      (λ n inside. free n (ap (λ (k : ℕ). is_within (s, k) n) (last some) ∙ inside))
      (λ n. is n ∙ ap (λ (k : ℕ). has_number old n || is_within (s, k) n) (last some))

  -- after a removal so many fewer are in it as were of the numbers
  pub count-removed : IsDifference old s e new → (low high : ℕ) → low ≤ s → s ≤ e → e ≤ high → count_between new low high + count_between old s e ≡ count_between old low high
  count-removed is low high from some to =
      count-taken (has_number old) (has_number new) low (high - low) s (e - s) from (omega (arith, from, some, to))
      (λ n. is n ∙ ap (λ (k : ℕ). has_number old n && not (is_within (s, k) n)) (last some))
