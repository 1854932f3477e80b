use Rattle.std.proofs.lemmas.Grind.{common_steps}
use Rattle.std.proofs.Common.{◌≡◌, ℕ, ◌<◌, ◌∷◌, [], length, length-append, IsSome, None, inl, inr, arith, refl}
use Rattle.std.proofs.lemmas.Bool.{cases_lt, false≢true}
use Rattle.btree_store.specs.SlotLaws.{get-content, content-fill}
use Rattle.btree_more_stores.proofs.TableLemmas.{table-low, table-vacant, table-refill, table-fresh, table-full, table-holds}
use Rattle.btree_more_stores.proofs.fixed_slab.FixedSlabSlabMut.insert.Goals as goal

-- a pop from an empty list
no-more : (n : ℕ) → (0 < n → IsSome {T = ℕ} None) → n ≡ 0
no-more n some = elim (cases_lt 0 n) [
  | inl more ↦ absurd (false≢true (some more))
  | inr none ↦ omega arith
]

pub pop-requires : goal.pop-requires
pop-requires g c = let fits = c.well_formed in omega arith

pub fill-requires : goal.fill-requires
fill-requires g c =
    let table = rw c.in-Some.ensures.items at c.self.invariant in
    (let fits = c.well_formed in omega arith, (table-low _ _ _ _ _ _ table, table-vacant _ _ _ _ _ _ table))

pub overflow_add-self : goal.overflow_add-self
overflow_add-self g c =
    let table = rw c.in-Some.ensures.items at c.self.invariant in
    let long = length-append c.pop.new.self.items (c.in-Some.id ∷ []) in
    omega (arith, table.total, table.within, long, g.N.fits)

pub fill-requires-in-None : goal.fill-requires-in-None
fill-requires-in-None g c =
    let fits = c.well_formed in
    (omega arith, (omega (arith, c.self.invariant.long, c.self.invariant.within, c.if-self.false), c.self.invariant.beyond _ (omega arith)))

pub overflow_add-self-in-None : goal.overflow_add-self-in-None
overflow_add-self-in-None g c = omega (arith, c.self.invariant.within, c.if-self.false, g.N.fits)

pub overflow_add-self-in-None-2 : goal.overflow_add-self-in-None-2
overflow_add-self-in-None-2 g c = omega (arith, c.self.invariant.total, c.self.invariant.within, c.if-self.false, g.N.fits)

pub returns-then-self-clause-unchanged : goal.returns-then-self-clause-unchanged
returns-then-self-clause-unchanged g c = rw (← c.self.view_is) refl

pub returns-else-self-clause-number : goal.returns-else-self-clause-number
returns-else-self-clause-number g c = omega (arith, c.self.invariant.within, c.if-self.false, g.N.fits)

pub returns-else-self-clause-unused : goal.returns-else-self-clause-unused
returns-else-self-clause-unused g c = rw (← c.self.view_is, get-content) (c.self.invariant.beyond _ (omega arith))

pub returns-else-self-clause-stored : goal.returns-else-self-clause-stored
returns-else-self-clause-stored g c =
    let inside : c.self.inside.fresh < length c.self.inside.slots.items = omega (arith, c.self.invariant.long, c.self.invariant.within, c.if-self.false) in
    rw (c.fill-in-None.ensures, ← c.self.view_is) (content-fill _ _ _ inside)

pub returns-else-self-clause-uncounted : goal.returns-else-self-clause-uncounted
returns-else-self-clause-uncounted g c = rw (← c.self.view_is) refl

pub returns-in-Some-clause-uncounted : goal.returns-in-Some-clause-uncounted
returns-in-Some-clause-uncounted g c = rw (← c.self.view_is) refl

pub invariant_of-self : goal.invariant_of-self
invariant_of-self g c =
    let table = rw c.in-Some.ensures.items at c.self.invariant in
    rw c.fill.ensures (table-refill _ _ _ _ _ _ _ table)

pub returns-in-Some-clause-unused : goal.returns-in-Some-clause-unused
returns-in-Some-clause-unused g c =
    let table = rw c.in-Some.ensures.items at c.self.invariant in
    rw (← c.self.view_is, get-content) (table-vacant _ _ _ _ _ _ table)

pub returns-in-Some-clause-number : goal.returns-in-Some-clause-number
returns-in-Some-clause-number g c =
    let table = rw c.in-Some.ensures.items at c.self.invariant in
    let low = table-low _ _ _ _ _ _ table in
    omega (arith, low, c.self.invariant.long, g.N.fits)

pub returns-in-Some-clause-stored : goal.returns-in-Some-clause-stored
returns-in-Some-clause-stored g c =
    let table = rw c.in-Some.ensures.items at c.self.invariant in
    rw (c.fill.ensures, ← c.self.view_is) (content-fill _ _ _ (table-low _ _ _ _ _ _ table))

pub invariant_of-self-in-None : goal.invariant_of-self-in-None
invariant_of-self-in-None g c =
    let same = c.in-None.ensures.empty in
    rw (c.fill-in-None.ensures, same) (table-fresh _ _ _ _ _ _ (omega (arith, c.self.invariant.within, c.if-self.false)) (no-more _ c.in-None.ensures.variant.1) c.self.invariant)

pub returns-in-Some-clause-can_hold : goal.returns-in-Some-clause-can_hold
returns-in-Some-clause-can_hold g c =
    let table = rw c.in-Some.ensures.items at c.self.invariant in
    rw c.fill.ensures (table-holds _ _ _ _ _ (table-refill _ _ _ _ _ _ _ table))

pub returns-else-self-clause-can_hold : goal.returns-else-self-clause-can_hold
returns-else-self-clause-can_hold g c =
    rw c.fill-in-None.ensures (table-holds _ _ _ _ _ (table-fresh _ _ _ _ _ _ (omega (arith, c.self.invariant.within, c.if-self.false)) (no-more _ c.in-None.ensures.variant.1) c.self.invariant))

pub returns-then-self-clause-may_refuse : goal.returns-then-self-clause-may_refuse
returns-then-self-clause-may_refuse g c =
    rw (← c.self.view_is) (table-full _ _ _ _ _ (no-more _ c.in-None.ensures.variant.1) (omega (arith, c.if-self.true)) c.self.invariant)

pub invariant_of-self-then-self : goal.invariant_of-self-then-self
invariant_of-self-then-self g c = grind (arith, common_steps) steps 300000

pub returns-then-self-clause-counted : goal.returns-then-self-clause-counted
returns-then-self-clause-counted g c = grind (arith, common_steps) steps 300000
