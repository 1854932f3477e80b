use Rattle.btree_item.proofs.Common.{◌≡◌, ◌+◌, ◌<◌, ◌++◌, refl, suc, length, take, drop, set, ap, ◌∙◌, arith, refill}
use Rattle.btree_item.proofs.StoreLemmas.{length-stored, moved-next, read-at, stored, stored-after-from}
use borrow.Author.Rules.{scaled_Fits}
use Rattle.btree_item.proofs.slots.move_slots.Goals as goal

pub loop-i-preserved : goal.loop-i-preserved
loop-i-preserved g c =
    let xs = c.loop-i.slots.items in
    let ys = c.loop-i.to.items in
    let i = c.loop-i.i in
    let k = c.loop-i.place in
    let whole = c.as_mut_slice.ensures.value in
    let whole_to = c.as_mut_slice-in-loop-i.ensures.value in
    let below = c.loop-i-test.true in
    let from = c.loop-i.invariant.from in
    let within : i < length xs = (let f = c.requires.fits in let s = c.loop-i.invariant.same in omega (arith, f, s, below)) in
    let room : k < length ys = (let r = c.requires.room in let s = c.loop-i.invariant.same_to in let p = c.loop-i.invariant.place in omega (arith, r, s, p, below, from)) in
    let next : i + 1 ≡ suc i = omega arith in
    record {
      same = length-stored xs _ i _ whole ∙ c.loop-i.invariant.same;
      same_to = length-stored ys _ k _ whole_to ∙ c.loop-i.invariant.same_to;
      from = omega (arith, from);
      place = (let p = c.loop-i.invariant.place in omega (arith, p, from));
      front = stored-after-from xs _ c.args.at i _ whole from ∙ c.loop-i.invariant.front;
      rest =
          ap (λ l. take (k + 1) l ++ drop (i + 1) (take c.args.len (refill (length xs) xs (set c.as_mut_slice.result.now i c.take.new.self)))) (stored ys _ k c.take.result whole_to)
          ∙ ap (λ l. take (k + 1) (set ys k c.take.result) ++ drop (i + 1) (take c.args.len l)) (stored xs _ i c.take.new.self whole)
          ∙ ap (λ j. take (k + 1) (set ys k c.take.result) ++ drop j (take c.args.len (set xs i c.take.new.self))) next
          ∙ moved-next xs ys c.args.len i k c.take.new.self c.take.result below within room (read-at xs _ i _ c.take.result whole within c.take.ensures.value)
          ∙ c.loop-i.invariant.rest;
    }

pub loop-i-init : goal.loop-i-init
loop-i-init g c = record {
  same = refl;
  same_to = refl;
  from = omega arith;
  place = omega arith;
  front = refl;
  rest = refl;
}

pub as_mut_slice-requires : goal.as_mut_slice-requires
as_mut_slice-requires g c = let fits = c.well_formed in omega arith

pub bounds-as_mut_slice-i : goal.bounds-as_mut_slice-i
bounds-as_mut_slice-i g c =
    let same = c.loop-i.invariant.same in
    rw c.as_mut_slice.ensures.value (omega (arith, c.requires.fits, same, c.loop-i-test.true))

pub as_mut_slice-requires-in-loop-i : goal.as_mut_slice-requires-in-loop-i
as_mut_slice-requires-in-loop-i g c = let fits = c.well_formed in omega arith

pub bounds-as_mut_slice-place : goal.bounds-as_mut_slice-place
bounds-as_mut_slice-place g c =
    let same = c.loop-i.invariant.same_to in
    let place = c.loop-i.invariant.place in
    rw c.as_mut_slice-in-loop-i.ensures.value (omega (arith, c.requires.room, same, place, c.loop-i-test.true, c.loop-i.invariant.from))

pub loop-i-smaller : goal.loop-i-smaller
loop-i-smaller g c = omega (arith, c.loop-i-test.true)

pub returns-clause-left : goal.returns-clause-left
returns-clause-left g c = c.loop-i.invariant.front

pub returns-clause-same : goal.returns-clause-same
returns-clause-same g c = c.loop-i.invariant.same

pub returns-clause-same_to : goal.returns-clause-same_to
returns-clause-same_to g c = c.loop-i.invariant.same_to

pub offset_bounds-as_mut_slice-i : goal.offset_bounds-as_mut_slice-i
offset_bounds-as_mut_slice-i g c =
    let same = c.loop-i.invariant.same in
    scaled_Fits _ _ _ (rw c.as_mut_slice.ensures.value (omega (arith, c.requires.fits, same, c.loop-i-test.true))) c.as_mut_slice.type_inv.1

pub offset_bounds-as_mut_slice-place : goal.offset_bounds-as_mut_slice-place
offset_bounds-as_mut_slice-place g c =
    let same = c.loop-i.invariant.same_to in
    let place = c.loop-i.invariant.place in
    scaled_Fits _ _ _ (rw c.as_mut_slice-in-loop-i.ensures.value (omega (arith, c.requires.room, same, place, c.loop-i-test.true, c.loop-i.invariant.from))) c.as_mut_slice-in-loop-i.type_inv.1
