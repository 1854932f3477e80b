use Rattle.std.proofs.lemmas.Grind.{common_steps}
use Rattle.std.proofs.Common.{◌∷◌, [], Some, arith, inl, inr, length-append, length-set}
use Rattle.btree_store.specs.SlotLaws.{content-fill, get-content}
use Rattle.btree_more_stores.proofs.FilledLemmas.{content-push, filled-full, filled-refill, free-past, refilled-inside, refilled-vacant}
use Rattle.btree_more_stores.proofs.slot_store.SlotStoreSlabMut.insert.Goals as goal

pub fill-requires-clause-inside : goal.fill-requires-clause-inside
fill-requires-clause-inside g c =
    let inside = refilled-inside _ _ _ _ (rw c.unwrap-id.ensures at c.pop.ensures.items) _ _ c.self.invariant in
    omega (arith, inside)

pub fill-requires-clause-vacant : goal.fill-requires-clause-vacant
fill-requires-clause-vacant g c = refilled-vacant _ _ _ _ (rw c.unwrap-id.ensures at c.pop.ensures.items) _ _ c.self.invariant

pub overflow_add-self : goal.overflow_add-self
overflow_add-self g c = omega (arith, c.if-has_free.true, c.len-end.type_inv)

pub invariant_of-self : goal.invariant_of-self
invariant_of-self g c =
    rw (c.fill.ensures, c.pop.ensures.capacity) (filled-refill _ _ _ _ (rw c.unwrap-id.ensures at c.pop.ensures.items) _ _ c.self.invariant _)

pub returns-then-has_free-clause-number : goal.returns-then-has_free-clause-number
returns-then-has_free-clause-number g c =
    let inside = refilled-inside _ _ _ _ (rw c.unwrap-id.ensures at c.pop.ensures.items) _ _ c.self.invariant in
    let fits = c.well_formed in
    omega arith

pub returns-then-has_free-clause-unused : goal.returns-then-has_free-clause-unused
returns-then-has_free-clause-unused g c =
    let vacant = refilled-vacant _ _ _ _ (rw c.unwrap-id.ensures at c.pop.ensures.items) _ _ c.self.invariant in
    rw (← c.self.view_is, get-content) vacant

pub returns-then-has_free-clause-reuses : goal.returns-then-has_free-clause-reuses
returns-then-has_free-clause-reuses g c =
    rw (c.fill.ensures, ← c.self.view_is) (inl (length-set c.self.inside.slots.items c.unwrap-id.result (Some c.args.value)))

pub returns-then-has_free-clause-stored : goal.returns-then-has_free-clause-stored
returns-then-has_free-clause-stored g c =
    rw (c.fill.ensures, ← c.self.view_is) (content-fill _ _ _ (refilled-inside _ _ _ _ (rw c.unwrap-id.ensures at c.pop.ensures.items) _ _ c.self.invariant))

pub returns-clause-unused : goal.returns-clause-unused
returns-clause-unused g c = rw (← c.self.view_is, get-content) (free-past c.self.inside.slots.items c.len-end.result (omega arith))

pub returns-clause-stored : goal.returns-clause-stored
returns-clause-stored g c =
    rw (c.push_reserved.ensures.items, c.reserve.ensures.slots, ← c.self.view_is) (content-push c.self.inside.slots.items c.len-end.result (omega arith) c.args.value)

-- Where a free place is left, the search of these goals has no end.
pub returns-then-is_err-clause-full : goal.returns-then-is_err-clause-full
returns-then-is_err-clause-full g c =
    rw (← c.self.view_is) (filled-full c.self.inside.slots.items c.self.inside.free.items c.self.inside.held _ c.self.invariant (omega arith))

pub returns-clause-reuses : goal.returns-clause-reuses
returns-clause-reuses g c =
    let full = filled-full c.self.inside.slots.items c.self.inside.free.items c.self.inside.held _ c.self.invariant (omega arith) in
    rw (c.push_reserved.ensures.items, c.reserve.ensures.slots, ← c.self.view_is) (inr (full, length-append c.self.inside.slots.items (Some c.args.value ∷ [])))

pub returns-then-has_free-clause-uncounted : goal.returns-then-has_free-clause-uncounted
returns-then-has_free-clause-uncounted g c = search

pub invariant_of-self-then-is_err : goal.invariant_of-self-then-is_err
invariant_of-self-then-is_err g c = grind (arith, common_steps) steps 300000

pub returns-then-is_err-clause-unchanged : goal.returns-then-is_err-clause-unchanged
returns-then-is_err-clause-unchanged g c = grind (arith, common_steps) steps 300000

pub returns-then-is_err-clause-counted : goal.returns-then-is_err-clause-counted
returns-then-is_err-clause-counted g c = grind (arith, common_steps) steps 300000

pub push_reserved-requires : goal.push_reserved-requires
push_reserved-requires g c = grind (arith, common_steps) steps 300000

pub invariant_of-self-2 : goal.invariant_of-self-2
invariant_of-self-2 g c = grind (arith, common_steps) steps 1500000

pub returns-clause-uncounted : goal.returns-clause-uncounted
returns-clause-uncounted g c = search
