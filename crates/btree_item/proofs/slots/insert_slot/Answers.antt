use Rattle.btree_item.proofs.Common.{◌≡◌, ◌+◌, ◌<◌, length, set, suc, refl, ◌∙◌, ap, take, arith, insert, ℕ, List, sym, refill}
use Rattle.btree_item.proofs.StoreLemmas.{carried-right, length-stored, read-at, stored}
use borrow.Author.Rules.{scaled_Fits}
use Rattle.std.proofs.lemmas.List.{length-take-le, take_more_set}
use Rattle.std.proofs.lemmas.List.Edits.{insert_end}
use Rattle.btree_item.proofs.slots.insert_slot.Goals as goal

-- an element stored behind the first n is inserted at their end
stored_last : {X : Type 0} (xs ys : List X) (n : ℕ) (y : X) → ys ≡ xs → n < length xs → take (n + 1) (refill (length xs) xs (set ys n y)) ≡ insert (take n xs) n y
stored_last xs ys n y is within =
    ap (take (n + 1)) (stored xs ys n y is)
    ∙ take_more_set xs n y within
    ∙ sym (insert_end (take n xs) y)
    ∙ ap (λ k. insert (take n xs) k y) (length-take-le n xs (omega (arith, within)))

pub loop-i-preserved : goal.loop-i-preserved
loop-i-preserved g c =
    let xs = c.loop-i.slots.items in
    let i = c.loop-i.i in
    let whole = c.as_mut_slice.ensures.value in
    let within : i < length xs = (let r = c.requires.room in let s = c.loop-i.invariant.same in let t = c.loop-i-test.true in omega (arith, r, s, t)) in
    let next : i + 1 ≡ suc i = omega arith in
    record {
      same = length-stored xs _ i _ whole ∙ c.loop-i.invariant.same;
      from = (let f = c.loop-i.invariant.from in omega (arith, f));
      carried =
          ap (λ l. insert (take c.args.len l) (i + 1) c.replace-carried.result) (stored xs _ i _ whole ∙ ap (λ y. set xs i y) c.replace-carried.ensures.after)
          ∙ ap (λ k. insert (take c.args.len (set xs i c.loop-i.carried)) k c.replace-carried.result) next
          ∙ carried-right xs c.args.len i c.loop-i.carried c.replace-carried.result c.loop-i-test.true within
          (read-at xs _ i _ c.replace-carried.result whole within c.replace-carried.ensures.value)
          ∙ c.loop-i.invariant.carried;
    }

pub loop-i-init : goal.loop-i-init
loop-i-init g c = record {
  same = refl;
  from = omega arith;
  carried = refl;
}

pub as_mut_slice-requires : goal.as_mut_slice-requires
as_mut_slice-requires g c = let fits = c.well_formed in omega arith

pub bounds-as_mut_slice-i : goal.bounds-as_mut_slice-i
bounds-as_mut_slice-i g c =
    let same = c.loop-i.invariant.same in
    rw c.as_mut_slice.ensures.value (omega (arith, c.requires.room, same, c.loop-i-test.true))

pub loop-i-smaller : goal.loop-i-smaller
loop-i-smaller g c = omega (arith, c.loop-i-test.true)

pub as_mut_slice-requires-2 : goal.as_mut_slice-requires-2
as_mut_slice-requires-2 g c = let fits = c.well_formed in omega arith

pub bounds-as_mut_slice-len : goal.bounds-as_mut_slice-len
bounds-as_mut_slice-len g c =
    let same = c.loop-i.invariant.same in
    rw c.as_mut_slice-2.ensures.value (omega (arith, c.requires.room, same))

pub returns-clause-same : goal.returns-clause-same
returns-clause-same g c = length-stored c.loop-i.slots.items _ c.args.len c.loop-i.carried c.as_mut_slice-2.ensures.value ∙ c.loop-i.invariant.same

pub offset_bounds-as_mut_slice-i : goal.offset_bounds-as_mut_slice-i
offset_bounds-as_mut_slice-i g c =
    let same = c.loop-i.invariant.same in
    scaled_Fits _ _ _ (rw c.as_mut_slice.ensures.value (omega (arith, c.requires.room, same, c.loop-i-test.true))) c.as_mut_slice.type_inv.1

pub offset_bounds-as_mut_slice-len : goal.offset_bounds-as_mut_slice-len
offset_bounds-as_mut_slice-len g c =
    let same = c.loop-i.invariant.same in
    scaled_Fits _ _ _ (rw c.as_mut_slice-2.ensures.value (omega (arith, c.requires.room, same))) c.as_mut_slice-2.type_inv.1

pub returns-clause-after : goal.returns-clause-after
returns-clause-after g c =
    let xs = c.loop-i.slots.items in
    let same = c.loop-i.invariant.same in
    let at : c.args.len ≡ c.loop-i.i = (let f = c.loop-i-test.false in let e = c.loop-i.auto.i-end c.requires.within in omega (arith, f, e)) in
    stored_last xs _ c.args.len c.loop-i.carried c.as_mut_slice-2.ensures.value (omega (arith, c.requires.room, same))
    ∙ ap (λ k. insert (take c.args.len xs) k c.loop-i.carried) at
    ∙ c.loop-i.invariant.carried
