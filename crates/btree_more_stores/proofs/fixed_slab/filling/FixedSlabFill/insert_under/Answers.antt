use Rattle.std.proofs.Common.{◌<◌, length, inl, inr, arith, refl}
use Rattle.btree_store.specs.SlotLaws.{content-fill, get-content}
use Rattle.btree_more_stores.proofs.FillLemmas.{table-next}
use Rattle.btree_more_stores.proofs.TableLemmas.{table-holds}
use Rattle.btree_more_stores.proofs.fixed_slab.filling.FixedSlabFill.insert_under.Goals as goal

pub returns-then-id-self-clause-refused : goal.returns-then-id-self-clause-refused
returns-then-id-self-clause-refused g c = rw (← c.self.view_is) (elim c.then-id-self.either [
  | inl below ↦ inl below
  | inr above ↦ inr above.1
])

pub returns-then-id-self-clause-uncounted : goal.returns-then-id-self-clause-uncounted
returns-then-id-self-clause-uncounted g c = rw (← c.self.view_is) refl

pub add_free-requires : goal.add_free-requires
add_free-requires g c =
    let fits = c.well_formed in
    (omega arith, (omega arith, (c.self.invariant, (omega (arith, c.if-id-self.false), omega (arith, c.if-id.false)))))

pub fill-requires : goal.fill-requires
fill-requires g c =
    let fits = c.well_formed in
    (omega arith, (omega (arith, c.self.invariant.long, c.if-id.false), c.self.invariant.beyond _ (omega (arith, c.if-id-self.false))))

pub overflow_add-self : goal.overflow_add-self
overflow_add-self g c = omega (arith, c.if-id.false, g.N.fits)

pub overflow_add-self-2 : goal.overflow_add-self-2
overflow_add-self-2 g c = omega (arith, c.if-id.false, g.N.fits, c.add_free.ensures.total)

pub invariant_of-self : goal.invariant_of-self
invariant_of-self g c = rw c.fill.ensures (table-next _ _ _ _ _ (omega (arith, c.if-id.false)) c.add_free.ensures _)

pub returns-clause-above : goal.returns-clause-above
returns-clause-above g c = rw (← c.self.view_is) (omega (arith, c.if-id-self.false))

pub returns-clause-unused : goal.returns-clause-unused
returns-clause-unused g c = rw (← c.self.view_is, get-content) (c.self.invariant.beyond _ (omega (arith, c.if-id-self.false)))

pub returns-clause-stored : goal.returns-clause-stored
returns-clause-stored g c =
    let inside : c.args.id < length c.self.inside.slots.items = omega (arith, c.self.invariant.long, c.if-id.false) in
    rw (c.fill.ensures, ← c.self.view_is) (content-fill _ _ _ inside)

pub returns-clause-can_hold : goal.returns-clause-can_hold
returns-clause-can_hold g c =
    rw c.fill.ensures (table-holds _ _ _ _ _ (table-next _ _ _ _ _ (omega (arith, c.if-id.false)) c.add_free.ensures _))

pub returns-clause-uncounted : goal.returns-clause-uncounted
returns-clause-uncounted g c = rw (← c.self.view_is) refl
