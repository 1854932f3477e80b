use Rattle.btree_item.proofs.Common.{◌≤◌, ◌∙◌, sym, ap, length, take, drop, arith, somes, ◌++◌}
use Rattle.btree_item.proofs.SomesLemmas.{AreSome-append, AreSome-drop, AreSome-take, length-held, shown-length, somes-take, somes-append, somes-drop}
use Rattle.btree_item.proofs.StoreLemmas.{take-take}
use Rattle.btree_item.proofs.slots.Slots.move_tail.Goals as goal

pub invariant_of-self : goal.invariant_of-self
invariant_of-self g c =
    let xs = c.self.inside.slots.items in
    let n = c.self.inside.len in
    let held = length-held n xs c.self.invariant.2 (omega (arith, c.self.invariant.0, c.self.invariant.1)) in
    let view = ap (λ l. length l) c.self.view_is in
    let within : c.args.at ≤ n = omega (arith, c.requires.within, held, view) in (
      c.move_slots.ensures.same ∙ c.self.invariant.0,
      omega (arith, within, c.self.invariant.1),
      rw (c.move_slots.ensures.left ∙ sym (take-take c.args.at n xs within)) (AreSome-take (take n xs) c.args.at c.self.invariant.2),
    )

pub invariant_of-to : goal.invariant_of-to
invariant_of-to g c =
    let xs = c.self.inside.slots.items in
    let n = c.self.inside.len in
    let held = length-held n xs c.self.invariant.2 (omega (arith, c.self.invariant.0, c.self.invariant.1)) in
    let view = ap (λ l. length l) c.self.view_is in
    let ys = c.to.inside.slots.items in
    let m = c.to.inside.len in
    let held_to = length-held m ys c.to.invariant.2 (omega (arith, c.to.invariant.0, c.to.invariant.1)) in
    let view_to = ap (λ l. length l) c.to.view_is in (
      c.move_slots.ensures.same_to ∙ c.to.invariant.0,
      omega (arith, c.requires.room, held, view, held_to, view_to),
      rw c.move_slots.ensures.moved (AreSome-append (take m ys) (drop c.args.at (take n xs)) c.to.invariant.2 (AreSome-drop (take n xs) c.args.at c.self.invariant.2)),
    )

pub returns-clause-left : goal.returns-clause-left
returns-clause-left g c =
    let xs = c.self.inside.slots.items in
    let n = c.self.inside.len in
    let held = length-held n xs c.self.invariant.2 (omega (arith, c.self.invariant.0, c.self.invariant.1)) in
    let view = ap (λ l. length l) c.self.view_is in
    let within : c.args.at ≤ n = omega (arith, c.requires.within, held, view) in
    ap somes (c.move_slots.ensures.left ∙ sym (take-take c.args.at n xs within))
    ∙ somes-take (take n xs) c.args.at c.self.invariant.2
    ∙ ap (take c.args.at) c.self.view_is

pub overflow_sub-to : goal.overflow_sub-to
overflow_sub-to g c =
    let held = shown-length _ _ _ c.args.self.now c.self.view_is c.self.invariant in
    omega (arith, held, c.requires.within)

pub overflow_add-to : goal.overflow_add-to
overflow_add-to g c =
    let held = shown-length _ _ _ c.args.self.now c.self.view_is c.self.invariant in
    let held_to = shown-length _ _ _ c.args.to.now c.to.view_is c.to.invariant in
    omega (arith, held, held_to, c.requires.room, g.N.fits)

pub move_slots-requires : goal.move_slots-requires
move_slots-requires g c =
    let held = shown-length _ _ _ c.args.self.now c.self.view_is c.self.invariant in
    let held_to = shown-length _ _ _ c.args.to.now c.to.view_is c.to.invariant in (
      let fits = c.well_formed in omega arith,
      (
        omega (arith, held, c.requires.within),
        (omega (arith, c.self.invariant.0, c.self.invariant.1), omega (arith, held, held_to, c.requires.room, c.to.invariant.0)),
      ),
    )

pub returns-clause-moved : goal.returns-clause-moved
returns-clause-moved g c =
    let xs = c.self.inside.slots.items in
    let n = c.self.inside.len in
    let ys = c.to.inside.slots.items in
    let m = c.to.inside.len in
    ap somes c.move_slots.ensures.moved
    ∙ somes-append (take m ys) (drop c.args.at (take n xs)) c.to.invariant.2 (AreSome-drop (take n xs) c.args.at c.self.invariant.2)
    ∙ ap (λ l. somes (take m ys) ++ l) (somes-drop (take n xs) c.args.at c.self.invariant.2 ∙ ap (drop c.args.at) c.self.view_is)
    ∙ ap (λ l. l ++ drop c.args.at c.args.self.now) c.to.view_is
