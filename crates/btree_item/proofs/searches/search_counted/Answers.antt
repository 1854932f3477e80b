use Rattle.btree_item.proofs.Common.{◌≡◌, ◌+◌, ◌<◌, ◌≤◌, ℕ, sym, ◌∙◌, arith, rules, length-map, common_steps}
use Rattle.std.proofs.Common.{nat_lt, if◌then◌else◌}
use Rattle.std.proofs.lemmas.Bool.{le-ltb, lt-ltb}
use Rattle.btree_item.proofs.KeyLemmas.{count_below-first, key_place-here, key_place-between, key_place-end}
use Rattle.btree_item.proofs.searches.search_counted.Goals as goal

-- past the last key there is no comparison for equality, and else there is one
past : (old new n len place : ℕ) → new ≡ old + n → len ≤ place → new ≡ old + (n + (if nat_lt place len then 1 else 0))
past old new n len place e end = rw (le-ltb place len end) (omega arith)

within : (old mid new n len place : ℕ) → mid ≡ old + n → new ≡ mid + 1 → place < len → new ≡ old + (n + (if nat_lt place len then 1 else 0))
within old mid new n len place e tick low = rw (lt-ltb place len low) (omega arith)

pub lower_bound-place-requires : goal.lower_bound-place-requires
lower_bound-place-requires g c = search rules steps 200000

pub len-requires : goal.len-requires
len-requires g c = search rules steps 200000

pub returns-then-place-len-clause-place : goal.returns-then-place-len-clause-place
returns-then-place-len-clause-place g c =
    let same = length-map c.args.slots.now g.T.Keyed.key_of in
    sym (key_place-end g.met.Q.Query.cuts _ _ _ c.requires c.lower_bound-place.ensures.place (omega arith))

pub returns-then-place-len-clause-within : goal.returns-then-place-len-clause-within
returns-then-place-len-clause-within g c = grind (arith, common_steps) steps 300000

pub returns-then-place-len-clause-fits : goal.returns-then-place-len-clause-fits
returns-then-place-len-clause-fits g c = search rules steps 200000

pub returns-then-place-len-clause-ticks : goal.returns-then-place-len-clause-ticks
returns-then-place-len-clause-ticks g c = λ few. let left = c.lower_bound-place.ensures.ticks few in omega arith

pub tick-requires : goal.tick-requires
tick-requires g c = search rules steps 200000

pub key_at-requires : goal.key_at-requires
key_at-requires g c = search rules steps 200000

pub is_at-requires : goal.is_at-requires
is_at-requires g c κs = search rules steps 200000

pub returns-then-is_at-clause-place : goal.returns-then-is_at-clause-place
returns-then-is_at-clause-place g c =
    let equal = sym c.is_at.ensures ∙ c.if-is_at.true in
    sym (key_place-here g.met.Q.Query.cuts _ _ _ _ c.requires c.lower_bound-place.ensures.place c.key_at.ensures equal)

pub returns-then-is_at-clause-within : goal.returns-then-is_at-clause-within
returns-then-is_at-clause-within g c = search rules steps 200000

pub returns-then-is_at-clause-fits : goal.returns-then-is_at-clause-fits
returns-then-is_at-clause-fits g c = search rules steps 200000

pub returns-then-is_at-clause-ticks : goal.returns-then-is_at-clause-ticks
returns-then-is_at-clause-ticks g c = λ few. let left = c.lower_bound-place.ensures.ticks few in omega arith

pub returns-else-is_at-clause-place : goal.returns-else-is_at-clause-place
returns-else-is_at-clause-place g c =
    let apart = sym c.is_at.ensures ∙ c.if-is_at.false in
    sym (key_place-between g.met.Q.Query.cuts _ _ _ _ c.requires c.lower_bound-place.ensures.place c.key_at.ensures apart)

pub returns-else-is_at-clause-within : goal.returns-else-is_at-clause-within
returns-else-is_at-clause-within g c = grind (arith, common_steps) steps 300000

pub returns-else-is_at-clause-fits : goal.returns-else-is_at-clause-fits
returns-else-is_at-clause-fits g c = search rules steps 200000

pub returns-else-is_at-clause-ticks : goal.returns-else-is_at-clause-ticks
returns-else-is_at-clause-ticks g c = λ few. let left = c.lower_bound-place.ensures.ticks few in omega arith

pub returns-then-place-len-clause-counted : goal.returns-then-place-len-clause-counted
returns-then-place-len-clause-counted g c =
    let first = c.lower_bound-place.ensures.place in
    let smaller = count_below-first g.met.Q.Query.cuts _ _ _ c.requires first in
    rw smaller (past _ _ _ _ _ c.lower_bound-place.ensures.counted (omega arith))

pub returns-then-is_at-clause-counted : goal.returns-then-is_at-clause-counted
returns-then-is_at-clause-counted g c =
    let first = c.lower_bound-place.ensures.place in
    let smaller = count_below-first g.met.Q.Query.cuts _ _ _ c.requires first in
    rw smaller (within _ _ _ _ _ _ c.lower_bound-place.ensures.counted c.tick.ensures (omega arith))

pub returns-else-is_at-clause-counted : goal.returns-else-is_at-clause-counted
returns-else-is_at-clause-counted g c =
    let first = c.lower_bound-place.ensures.place in
    let smaller = count_below-first g.met.Q.Query.cuts _ _ _ c.requires first in
    rw smaller (within _ _ _ _ _ _ c.lower_bound-place.ensures.counted c.tick.ensures (omega arith))
