use Rattle.btree_item.proofs.Common.{◌≡◌, ℕ, ◌-◌, ◌<◌, ◌≤◌, List, refl, suc, length, take, set, get_or, sym, ap, ◌∙◌, arith, insert, refill}
use Rattle.btree_item.proofs.StoreLemmas.{carried-left, inserted-last, length-stored, read-at, removed-others, removed-there, stored, stored-after}
use borrow.Author.Rules.{scaled_Fits}
use Rattle.btree_item.proofs.slots.remove_slot.Goals as goal

-- what was taken from the last of n elements, inserted again
again : {X : Type 0} (xs ys : List X) (n : ℕ) (blank y r : X) → ys ≡ xs → 0 < n → n ≤ length xs → r ≡ get_or ys (n - 1) blank
    → insert (take (n - 1) (refill (length xs) xs (set ys (n - 1) y))) (n - 1) r ≡ take n xs
again xs ys n blank y r is some within read =
    let last : n - 1 < length xs = omega (arith, some, within) in
    let next : suc (n - 1) ≡ n = omega (arith, some) in
    ap (λ l. insert l (n - 1) r) (stored-after xs ys (n - 1) y is)
    ∙ inserted-last xs (n - 1) r last (read-at xs ys (n - 1) blank r is last read)
    ∙ ap (λ k. take k xs) next

pub loop-i-preserved : goal.loop-i-preserved
loop-i-preserved g c =
    let xs = c.loop-i.slots.items in
    let i = c.loop-i.i in
    let n = c.args.len in
    let whole = c.as_mut_slice-in-loop-i.ensures.value in
    let above = c.loop-i-test.true in
    let low = c.loop-i.invariant.within in
    let from : c.args.index ≤ i - 1 = omega (arith, above) in
    let below : i - 1 < n - 1 = omega (arith, low, above) in
    let long = length-stored c.args.slots.now.items _ (n - 1) c.take-carried.new.self c.as_mut_slice.ensures.value in
    let within : i - 1 < length xs = (let s = c.loop-i.invariant.same in let f = c.requires.fits in omega (arith, s, f, low, above, long)) in
    let next : suc (i - 1) ≡ i = omega (arith, above) in
    record {
      same = length-stored xs _ (i - 1) _ whole ∙ c.loop-i.invariant.same;
      within = omega (arith, low);
      from = from;
      carried =
          ap (λ l. insert (take (n - 1) l) (i - 1) c.replace-carried.result) (stored xs _ (i - 1) _ whole ∙ ap (λ y. set xs (i - 1) y) c.replace-carried.ensures.after)
          ∙ carried-left xs (n - 1) (i - 1) c.loop-i.carried c.replace-carried.result below within
          (read-at xs _ (i - 1) _ c.replace-carried.result whole within c.replace-carried.ensures.value)
          ∙ ap (λ k. insert (take (n - 1) xs) k c.loop-i.carried) next
          ∙ c.loop-i.invariant.carried;
    }

pub returns-clause-answer : goal.returns-clause-answer
returns-clause-answer g c =
    let n = c.args.len in
    let some : 0 < n = (let w = c.requires.within in omega (arith, w)) in
    let all = c.loop-i.invariant.carried ∙ again c.args.slots.now.items _ n _ c.take-carried.new.self c.take-carried.result c.as_mut_slice.ensures.value some c.requires.fits c.take-carried.ensures.value in
    let long = length-stored c.args.slots.now.items _ (n - 1) c.take-carried.new.self c.as_mut_slice.ensures.value in
    let at : c.loop-i.i ≡ c.args.index = (let f = c.loop-i.invariant.from in let t = c.loop-i-test.false in omega (arith, f, t)) in
    let fits : n - 1 ≤ length c.loop-i.slots.items = (let s = c.loop-i.invariant.same in let f = c.requires.fits in omega (arith, s, f, long)) in
    let below : c.args.index ≤ n - 1 = (let w = c.requires.within in omega (arith, w)) in
    removed-there c.loop-i.slots.items _ (n - 1) c.args.index c.loop-i.carried fits below (ap (λ k. insert (take (n - 1) c.loop-i.slots.items) k c.loop-i.carried) (sym at) ∙ all)

pub returns-clause-after : goal.returns-clause-after
returns-clause-after g c =
    let n = c.args.len in
    let some : 0 < n = (let w = c.requires.within in omega (arith, w)) in
    let all = c.loop-i.invariant.carried ∙ again c.args.slots.now.items _ n _ c.take-carried.new.self c.take-carried.result c.as_mut_slice.ensures.value some c.requires.fits c.take-carried.ensures.value in
    let long = length-stored c.args.slots.now.items _ (n - 1) c.take-carried.new.self c.as_mut_slice.ensures.value in
    let at : c.loop-i.i ≡ c.args.index = (let f = c.loop-i.invariant.from in let t = c.loop-i-test.false in omega (arith, f, t)) in
    let fits : n - 1 ≤ length c.loop-i.slots.items = (let s = c.loop-i.invariant.same in let f = c.requires.fits in omega (arith, s, f, long)) in
    let below : c.args.index ≤ n - 1 = (let w = c.requires.within in omega (arith, w)) in
    removed-others c.loop-i.slots.items _ (n - 1) c.args.index c.loop-i.carried fits below (ap (λ k. insert (take (n - 1) c.loop-i.slots.items) k c.loop-i.carried) (sym at) ∙ all)

pub overflow_sub-i : goal.overflow_sub-i
overflow_sub-i g c = omega (arith, c.requires.within)

pub as_mut_slice-requires : goal.as_mut_slice-requires
as_mut_slice-requires g c = let fits = c.well_formed in omega arith

pub bounds-as_mut_slice-i : goal.bounds-as_mut_slice-i
bounds-as_mut_slice-i g c = rw c.as_mut_slice.ensures.value (omega (arith, c.requires.within, c.requires.fits))

pub loop-i-init : goal.loop-i-init
loop-i-init g c = record {
  same = refl;
  within = omega (arith, c.requires.within);
  from = omega (arith, c.requires.within);
  carried = refl;
}

pub overflow_sub-i-in-loop-i : goal.overflow_sub-i-in-loop-i
overflow_sub-i-in-loop-i g c = omega (arith, c.loop-i-test.true)

pub as_mut_slice-requires-in-loop-i : goal.as_mut_slice-requires-in-loop-i
as_mut_slice-requires-in-loop-i g c = let fits = c.well_formed in omega arith

pub bounds-as_mut_slice-i-in-loop-i : goal.bounds-as_mut_slice-i-in-loop-i
bounds-as_mut_slice-i-in-loop-i g c =
    let long = length-stored c.args.slots.now.items _ (c.args.len - 1) c.take-carried.new.self c.as_mut_slice.ensures.value in
    let same = c.loop-i.invariant.same in
    rw c.as_mut_slice-in-loop-i.ensures.value (omega (arith, same, c.requires.fits, c.loop-i.invariant.within, c.loop-i-test.true, long))

pub loop-i-smaller : goal.loop-i-smaller
loop-i-smaller g c = omega (arith, c.loop-i-test.true)

pub returns-clause-same : goal.returns-clause-same
returns-clause-same g c =
    c.loop-i.invariant.same ∙ length-stored c.args.slots.now.items _ (c.args.len - 1) c.take-carried.new.self c.as_mut_slice.ensures.value

pub offset_bounds-as_mut_slice-i : goal.offset_bounds-as_mut_slice-i
offset_bounds-as_mut_slice-i g c =
    scaled_Fits _ _ _ (rw c.as_mut_slice.ensures.value (omega (arith, c.requires.within, c.requires.fits))) c.as_mut_slice.type_inv.1

pub offset_bounds-as_mut_slice-i-in-loop-i : goal.offset_bounds-as_mut_slice-i-in-loop-i
offset_bounds-as_mut_slice-i-in-loop-i g c =
    let long = length-stored c.args.slots.now.items _ (c.args.len - 1) c.take-carried.new.self c.as_mut_slice.ensures.value in
    let same = c.loop-i.invariant.same in
    scaled_Fits _ _ _ (rw c.as_mut_slice-in-loop-i.ensures.value (omega (arith, same, c.requires.fits, c.loop-i.invariant.within, c.loop-i-test.true, long))) c.as_mut_slice-in-loop-i.type_inv.1
