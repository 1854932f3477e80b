use Rattle.btree_item.proofs.Common.{◌∙◌, ap, take, arith, somes, insert}
use Rattle.btree_item.proofs.SomesLemmas.{AreSome-insert, room-left, somes-insert, shown-length}
use Rattle.btree_item.proofs.slots.Slots.insert.Goals as goal

pub invariant_of-self : goal.invariant_of-self
invariant_of-self g c =
    let xs = c.self.inside.slots.items in
    let n = c.self.inside.len in
    let held = shown-length _ _ _ c.args.self.now c.self.view_is c.self.invariant in (
      c.insert_slot.ensures.same ∙ c.self.invariant.0,
      omega (arith, held, c.requires.room),
      rw c.insert_slot.ensures.after (AreSome-insert (take n xs) c.args.index c.args.value c.self.invariant.2),
    )

pub insert_slot-requires : goal.insert_slot-requires
insert_slot-requires g c =
    let held = shown-length _ _ _ c.args.self.now c.self.view_is c.self.invariant in (
      let fits = c.well_formed in omega arith,
      (omega (arith, held, c.requires.within), room-left _ _ _ c.args.self.now c.self.view_is c.self.invariant c.requires.room),
    )

pub overflow_add-self : goal.overflow_add-self
overflow_add-self g c =
    let room = room-left _ _ _ c.args.self.now c.self.view_is c.self.invariant c.requires.room in
    omega (arith, room, c.self.invariant.0, g.N.fits)

pub returns : goal.returns
returns g c =
    let xs = c.self.inside.slots.items in
    let n = c.self.inside.len in
    ap somes c.insert_slot.ensures.after
    ∙ somes-insert (take n xs) c.args.index c.args.value c.self.invariant.2
    ∙ ap (λ l. insert l c.args.index c.args.value) c.self.view_is
