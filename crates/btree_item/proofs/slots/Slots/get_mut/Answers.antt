use Rattle.btree_item.proofs.Common.{◌<◌, Some, ◌∙◌, arith, sym, ap, rules}
use Rattle.std.proofs.lemmas.List.{length-set}
use Rattle.btree_item.proofs.SomesLemmas.{AreSome-lend, set-read, slot_edits, slot_held, somes-lend, shown-length}
use mathlib.Core.Logic.{inr}
use Rattle.std.proofs.lemmas.Option.{slice_get_past}
use Rattle.btree_item.proofs.slots.Slots.get_mut.Goals as goal

pub invariant_of-self-lent : goal.invariant_of-self-lent
invariant_of-self-lent g c _ =
    let xs = c.self.inside.slots.items in
    let n = c.self.inside.len in
    let i = c.args.index in
    let below : i < n = (let l = c.if-index-self.false in omega (arith, l)) in (
      λ w. (length-set xs i (Some w) ∙ c.self.invariant.0, c.self.invariant.1, AreSome-lend xs n i w c.self.invariant.2 below),
      (
        length-set xs i c.in-Some.slot.now ∙ c.self.invariant.0,
        c.self.invariant.1,
        rw (set-read xs i c.in-Some.slot.now c.in-Some.ensures.value) c.self.invariant.2,
      ),
    )

pub returns-in-Some : goal.returns-in-Some
returns-in-Some g c = grind (arith, slot_edits, set-read, slot_held, somes-lend) steps 2000000

pub get_mut-requires : goal.get_mut-requires
get_mut-requires g c = let fits = c.well_formed in omega arith

pub as_mut-requires : goal.as_mut-requires
as_mut-requires g c κs = search rules steps 200000

pub invariant_of-self : goal.invariant_of-self
invariant_of-self g c = c.self.invariant

pub invariant_of-self-in-None : goal.invariant_of-self-in-None
invariant_of-self-in-None g c = c.self.invariant

pub returns-then-index-self : goal.returns-then-index-self
returns-then-index-self g c =
    let held = shown-length _ _ _ c.args.self.now c.self.view_is c.self.invariant in
    (ap inr c.self.view_is, record { writes_back = tt; value = sym (slice_get_past c.args.self.now c.args.index (omega (arith, held, c.if-index-self.true))) })
