use Rattle.btree_item.proofs.Common.{arith, ◌≤◌, ◌∙◌, sym, ap, length, slice_get, rules}
use Rattle.btree_item.proofs.SomesLemmas.{shown-length, slot_held}
use Rattle.btree_item.proofs.StoreLemmas.{read-at}
use Rattle.std.proofs.lemmas.Option.{slice_get_past}
use Rattle.btree_item.proofs.slots.Slots.get.Goals as goal

pub as_slice-requires : goal.as_slice-requires
as_slice-requires g c = let fits = c.well_formed in omega arith

pub bounds-as_slice-index : goal.bounds-as_slice-index
bounds-as_slice-index g c = rw c.as_slice.ensures.value (omega (arith, c.if-index-self.true, c.self.invariant.0, c.self.invariant.1))

pub offset_bounds-as_slice-index : goal.offset_bounds-as_slice-index
offset_bounds-as_slice-index g c =
    rw c.as_slice.ensures.value (omega (arith, c.if-index-self.true, c.self.invariant.0, c.self.invariant.1))

pub as_ref-requires : goal.as_ref-requires
as_ref-requires g c κs = search rules steps 200000

pub returns-then-index-self : goal.returns-then-index-self
returns-then-index-self g c =
    let xs = c.self.inside.slots.items in
    let n = c.self.inside.len in
    let i = c.args.index in
    let below = c.if-index-self.true in
    let fits : n ≤ length xs = omega (arith, c.self.invariant.0, c.self.invariant.1) in
    c.as_ref.ensures.value
    ∙ sym (slot_held xs n i c.index-as_slice-index.result c.self.invariant.2 fits below (read-at xs _ i _ c.index-as_slice-index.result c.as_slice.ensures.value (omega (arith, below, fits)) c.index-as_slice-index.is))
    ∙ ap (λ l. slice_get l i) c.self.view_is

pub returns-else-index-self : goal.returns-else-index-self
returns-else-index-self g c =
    let held = shown-length _ _ _ c.args.self.now c.self.view_is c.self.invariant in
    sym (slice_get_past c.args.self.now c.args.index (omega (arith, held, c.if-index-self.false)))
