use Rattle.btree_item.proofs.Common.{◌≡◌, ◌-◌, ◌≤◌, ◌∙◌, sym, ap, length, take, arith, slice_get, somes, List, [], ◌∷◌, refl}
use Rattle.btree_item.proofs.SomesLemmas.{AreSome-take, length-held, slot_held, somes-take, shown-length}
use Rattle.btree_item.proofs.StoreLemmas.{length-stored, read-at, stored-after, take-take}
use borrow.Author.Rules.{scaled_Fits}
use Rattle.std.proofs.lemmas.Option.{slice_get_past}
use Rattle.btree_item.proofs.slots.Slots.pop.Goals as goal

-- where there is no last element, all stay
all_of_none : {X : Type 0} (xs : List X) → length xs ≡ 0 → xs ≡ take (length xs - 1) xs
all_of_none [] none = refl
all_of_none (x ∷ xs) none = absurd (omega (arith, none))

pub invariant_of-self : goal.invariant_of-self
invariant_of-self g c =
    let xs = c.self.inside.slots.items in
    let n = c.self.inside.len in (
      length-stored xs _ (n - 1) _ c.as_mut_slice.ensures.value ∙ c.self.invariant.0,
      omega (arith, c.self.invariant.1),
      rw (stored-after xs c.as_mut_slice.result.now (n - 1) c.take.new.self c.as_mut_slice.ensures.value ∙ sym (take-take (n - 1) n xs (omega arith))) (AreSome-take (take n xs) (n - 1) c.self.invariant.2),
    )

pub returns-clause-answer : goal.returns-clause-answer
returns-clause-answer g c =
    let xs = c.self.inside.slots.items in
    let n = c.self.inside.len in
    let fits : n ≤ length xs = omega (arith, c.self.invariant.0, c.self.invariant.1) in
    let held = length-held n xs c.self.invariant.2 fits in
    let view = ap (λ l. length l) c.self.view_is in
    let some = c.if-self-eq0.false in
    let at : length c.args.self.now - 1 ≡ n - 1 = omega (arith, held, view) in
    sym (slot_held xs n (n - 1) c.take.result c.self.invariant.2 fits (omega (arith, some)) (read-at xs _ (n - 1) _ c.take.result c.as_mut_slice.ensures.value (omega (arith, some, fits)) c.take.ensures.value))
    ∙ ap (λ l. slice_get l (n - 1)) c.self.view_is
    ∙ ap (λ k. slice_get c.args.self.now k) (sym at)

pub returns-clause-after : goal.returns-clause-after
returns-clause-after g c =
    let xs = c.self.inside.slots.items in
    let n = c.self.inside.len in
    let fits : n ≤ length xs = omega (arith, c.self.invariant.0, c.self.invariant.1) in
    let held = length-held n xs c.self.invariant.2 fits in
    let view = ap (λ l. length l) c.self.view_is in
    let at : length c.args.self.now - 1 ≡ n - 1 = omega (arith, held, view) in
    ap somes (stored-after xs _ (n - 1) _ c.as_mut_slice.ensures.value ∙ sym (take-take (n - 1) n xs (omega arith)))
    ∙ somes-take (take n xs) (n - 1) c.self.invariant.2
    ∙ ap (take (n - 1)) c.self.view_is
    ∙ ap (λ k. take k c.args.self.now) (sym at)

pub overflow_sub-self : goal.overflow_sub-self
overflow_sub-self g c = omega (arith, c.if-self-eq0.false)

pub as_mut_slice-requires : goal.as_mut_slice-requires
as_mut_slice-requires g c = let fits = c.well_formed in omega arith

pub bounds-as_mut_slice-self-inside : goal.bounds-as_mut_slice-self-inside
bounds-as_mut_slice-self-inside g c = rw c.as_mut_slice.ensures.value (omega (arith, c.if-self-eq0.false, c.self.invariant.0, c.self.invariant.1))

pub offset_bounds-as_mut_slice-self-inside : goal.offset_bounds-as_mut_slice-self-inside
offset_bounds-as_mut_slice-self-inside g c =
    scaled_Fits _ _ _ (rw c.as_mut_slice.ensures.value (omega (arith, c.if-self-eq0.false, c.self.invariant.0, c.self.invariant.1))) c.as_mut_slice.type_inv.1

pub returns-then-self-eq0-clause-answer : goal.returns-then-self-eq0-clause-answer
returns-then-self-eq0-clause-answer g c =
    let held = shown-length _ _ _ c.args.self.now c.self.view_is c.self.invariant in
    sym (slice_get_past c.args.self.now _ (omega (arith, held, c.if-self-eq0.true)))

pub returns-then-self-eq0-clause-after : goal.returns-then-self-eq0-clause-after
returns-then-self-eq0-clause-after g c =
    let held = shown-length _ _ _ c.args.self.now c.self.view_is c.self.invariant in
    all_of_none c.args.self.now (omega (arith, held, c.if-self-eq0.true))
