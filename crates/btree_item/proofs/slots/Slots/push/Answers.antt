use Rattle.btree_item.proofs.Common.{◌+◌, ◌++◌, ◌∷◌, [], Some, ◌∙◌, ap, take, arith, somes}
use Rattle.btree_item.proofs.SomesLemmas.{AreSome-store, room-left, somes-store}
use Rattle.btree_item.proofs.StoreLemmas.{length-stored, stored}
use borrow.Author.Rules.{scaled_Fits}
use Rattle.btree_item.proofs.slots.Slots.push.Goals as goal

pub invariant_of-self : goal.invariant_of-self
invariant_of-self g c =
    let xs = c.self.inside.slots.items in
    let n = c.self.inside.len in
    let room = room-left _ _ _ c.args.self.now c.self.view_is c.self.invariant c.requires in (
      length-stored xs _ n _ c.as_mut_slice.ensures.value ∙ c.self.invariant.0,
      omega (arith, room, c.self.invariant.0),
      rw (stored xs _ n (Some c.args.value) c.as_mut_slice.ensures.value) (AreSome-store xs n c.args.value c.self.invariant.2 room),
    )

pub returns : goal.returns
returns g c =
    let xs = c.self.inside.slots.items in
    let n = c.self.inside.len in
    let room = room-left _ _ _ c.args.self.now c.self.view_is c.self.invariant c.requires in
    ap (λ l. somes (take (n + 1) l)) (stored xs _ n (Some c.args.value) c.as_mut_slice.ensures.value)
    ∙ somes-store xs n c.args.value c.self.invariant.2 room
    ∙ ap (λ l. l ++ c.args.value ∷ []) c.self.view_is

pub as_mut_slice-requires : goal.as_mut_slice-requires
as_mut_slice-requires g c = let fits = c.well_formed in omega arith

pub bounds-as_mut_slice-self-inside : goal.bounds-as_mut_slice-self-inside
bounds-as_mut_slice-self-inside g c = rw c.as_mut_slice.ensures.value (room-left _ _ _ c.args.self.now c.self.view_is c.self.invariant c.requires)

pub overflow_add-self : goal.overflow_add-self
overflow_add-self g c =
    let room = room-left _ _ _ c.args.self.now c.self.view_is c.self.invariant c.requires in
    omega (arith, room, c.self.invariant.0, g.N.fits)

pub offset_bounds-as_mut_slice-self-inside : goal.offset_bounds-as_mut_slice-self-inside
offset_bounds-as_mut_slice-self-inside g c =
    let room = room-left _ _ _ c.args.self.now c.self.view_is c.self.invariant c.requires in
    scaled_Fits _ _ _ (rw c.as_mut_slice.ensures.value room) c.as_mut_slice.type_inv.1
