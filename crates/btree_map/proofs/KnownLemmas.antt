-- The count of the pairs that an editing cursor has passed, if it is known: it is the place of the cursor after each step.
use Rattle.btree_map.proofs.Common.{◌≡◌, ◌∙◌, ℕ, ◌+◌, ◌<◌, IfSome, Option, Some, None, arith, refl, subst, sym, ap, same_Some, Address, TreeState, value_written, index_of, item_index, written-addresses}
use Rattle.std.specs.Option.{ForSome, option_map}

-- the count, if it is known, is the place
abbrev pub IsPlace : Option ℕ → ℕ → Type 0
IsPlace known place = ForSome known (λ n. n ≡ place)

pub known-none : (place : ℕ) → IsPlace None place
known-none place = λ n is. absurd (cc)

pub known-one : (m place : ℕ) → m ≡ place → IsPlace (Some m) place
known-one m place same = λ n is. sym (same_Some m n is) ∙ same

pub known-below : (known : Option ℕ) (place bound : ℕ) → IsPlace known place → place < bound → IfSome known (λ n. n < bound)
known-below None place bound counted below = tt
known-below (Some n) place bound counted below = let same = counted n refl in omega (arith, same, below)

pub known-same : (known : Option ℕ) (place next : ℕ) → IsPlace known place → next ≡ place → IsPlace known next
known-same known place next counted same = subst (IsPlace known) (sym same) counted

-- one more pair was passed
known-step : (known : Option ℕ) (place next : ℕ) → IsPlace known place → next ≡ place + 1 → IsPlace (option_map (λ n. n + 1) known) next
known-step None place next counted more = λ n is. absurd (cc)
known-step (Some m) place next counted more = λ n is.
    let same = counted m refl in
    let one = same_Some (m + 1) n is in
    omega (arith, same, one, more)

pub known-more : (known more : Option ℕ) (place next : ℕ) → IsPlace known place → next ≡ place + 1 → more ≡ option_map (λ n. n + 1) known → IsPlace more next
known-more known more place next counted step is = subst (λ o. IsPlace o next) (sym is) (known-step known place next counted step)

pub known-mapped : (known : Option ℕ) (place next : ℕ) → IsPlace known place → next ≡ place + 1 → option_map (λ n. n + 1) known ≡ option_map (λ _. next) known
known-mapped None place next counted step = refl
known-mapped (Some n) place next counted step = let same = counted n refl in ap Some (omega (arith, same, step))

-- it is the place still, once a value was written
pub known-written : {K V : Type 0} (s : TreeState K V) (a : Address) (w : V) (known : Option ℕ) (found : Option Address)
    → IsPlace known (item_index s found) → IsPlace known (item_index (value_written s a w) found)
known-written s a w known found counted = subst (λ l. IsPlace known (index_of l found)) (sym (written-addresses s a w)) counted
