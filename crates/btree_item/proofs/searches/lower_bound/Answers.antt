use Rattle.btree_item.proofs.Common.{◌∙◌, sym, arith, rules, length, length-map, ◌≡◌, ℕ, ◌+◌, ◌-◌, ◌<◌, ◌≤◌}
use Rattle.btree_item.proofs.KeyLemmas.{AllBelow-from_key, IsNotBelowAt-end, AllBelow-none, IsNotBelowAt-from_key}
use borrow.Author.Tests.{le-leb, lt-leb}
use Rattle.btree_item.specs.Comparisons.{comparisons_for_place}
use Rattle.btree_item.proofs.searches.lower_bound.Goals as goal

-- how many keys are compared: each of few, or the middle one and a half
counted_few : (old new len place : ℕ) → new ≡ old + len → len ≤ 4 → new ≡ old + comparisons_for_place len place
counted_few old new len place e few = rw (le-leb len 4 few) e

counted_high : (old new len place : ℕ) → new ≡ old + (len - 4) → 4 < len → 4 < place → new ≡ old + comparisons_for_place len place
counted_high old new len place e many high = rw (lt-leb len 4 many, lt-leb place 4 high) e

counted_low : (old new len place : ℕ) → new ≡ old + 5 → 4 < len → place ≤ 4 → new ≡ old + comparisons_for_place len place
counted_low old new len place e many low = rw (lt-leb len 4 many, le-leb place 4 low) e

pub first_not_below-requires : goal.first_not_below-requires
first_not_below-requires g c =
    let fits = c.well_formed in
    let same = length-map c.args.slots.now g.T.Keyed.key_of in
    (omega arith, (omega arith, (omega arith, (c.requires, (AllBelow-none _ _, IsNotBelowAt-end _ _ _ (omega arith))))))

pub first_not_below-requires-then-is_after : goal.first_not_below-requires-then-is_after
first_not_below-requires-then-is_after g c =
    let fits = c.well_formed in
    let same = length-map c.args.slots.now g.T.Keyed.key_of in
    let is_below = sym c.is_after.ensures ∙ c.if-is_after.true in (
      omega arith,
      (
        omega arith,
        (
          omega arith,
          (c.requires, (AllBelow-from_key g.met.Q.Query.cuts _ _ _ _ c.requires c.key_at.ensures is_below, IsNotBelowAt-end _ _ _ (omega arith))),
        ),
      ),
    )

pub len-len-requires : goal.len-len-requires
len-len-requires g c = search rules steps 200000

pub tick-requires : goal.tick-requires
tick-requires g c = search rules steps 200000

pub key_at-requires : goal.key_at-requires
key_at-requires g c = search rules steps 200000

pub is_after-requires : goal.is_after-requires
is_after-requires g c κs = search rules steps 200000

pub overflow_add-first_not_below : goal.overflow_add-first_not_below
overflow_add-first_not_below g c = search rules steps 200000

pub first_not_below-requires-else-is_after : goal.first_not_below-requires-else-is_after
first_not_below-requires-else-is_after g c =
    let fits = c.well_formed in
    let not_below = sym c.is_after.ensures ∙ c.if-is_after.false in
    (omega arith, (omega arith, (omega arith, (c.requires, (AllBelow-none _ _, IsNotBelowAt-from_key _ _ _ _ c.key_at.ensures not_below)))))

pub returns-then-len-le-MIDDLE-clause-ticks : goal.returns-then-len-le-MIDDLE-clause-ticks
returns-then-len-le-MIDDLE-clause-ticks g c = λ few. omega arith

pub returns-then-len-le-MIDDLE-clause-place : goal.returns-then-len-le-MIDDLE-clause-place
returns-then-len-le-MIDDLE-clause-place g c = search rules steps 200000

pub returns-then-is_after-clause-ticks : goal.returns-then-is_after-clause-ticks
returns-then-is_after-clause-ticks g c = λ few. omega arith

pub returns-then-is_after-clause-place : goal.returns-then-is_after-clause-place
returns-then-is_after-clause-place g c = search rules steps 200000

pub returns-else-is_after-clause-ticks : goal.returns-else-is_after-clause-ticks
returns-else-is_after-clause-ticks g c = λ few. omega arith

pub returns-else-is_after-clause-place : goal.returns-else-is_after-clause-place
returns-else-is_after-clause-place g c = search rules steps 200000

pub key_at-early-requires : goal.key_at-early-requires
key_at-early-requires g c = (let fits = c.well_formed in omega arith, omega arith)

pub returns-then-len-le-MIDDLE-clause-counted : goal.returns-then-len-le-MIDDLE-clause-counted
returns-then-len-le-MIDDLE-clause-counted g c =
    counted_few c.args.steps.now.count c.first_not_below.new.steps.count (length c.args.slots.now) c.first_not_below.result (omega arith) (omega arith)

pub returns-then-is_after-clause-counted : goal.returns-then-is_after-clause-counted
returns-then-is_after-clause-counted g c =
    counted_high c.args.steps.now.count c.first_not_below-then-is_after.new.steps.count (length c.args.slots.now) c.first_not_below-then-is_after.result (omega arith) (omega arith) (omega arith)

pub returns-else-is_after-clause-counted : goal.returns-else-is_after-clause-counted
returns-else-is_after-clause-counted g c =
    counted_low c.args.steps.now.count c.first_not_below-else-is_after.new.steps.count (length c.args.slots.now) c.first_not_below-else-is_after.result (omega arith) (omega arith) (omega arith)
