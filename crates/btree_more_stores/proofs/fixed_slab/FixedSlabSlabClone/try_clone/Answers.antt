use Rattle.std.proofs.Common.{◌≡◌, Option, Some, None, Result, Ok, Err, OnErr, inl, inr, ap, refl}
use Rattle.std.specs.List.{each_same}
use Rattle.btree_store.specs.Content.{content_from}
use Rattle.btree_more_stores.specs.Table.{HasFallible}
use Rattle.btree_more_stores.proofs.SlotLemmas.{content_cases, zip_same}
use Rattle.btree_more_stores.proofs.fixed_slab.FixedSlabSlabClone.try_clone.Goals as goal

-- options are equal if they are related as the cases of a clone are
option_same : {X : Type 0} (R : Option X → Option X → Type 0) → ((y : X) → R None (Some y) → Some y ≡ None) → ((x : X) → R (Some x) None → None ≡ Some x) → ((x y : X) → R (Some x) (Some y) → y ≡ x) → (x y : Option X) → R x y → y ≡ x
option_same R gained lost kept None None related = refl
option_same R gained lost kept None (Some y) related = gained y related
option_same R gained lost kept (Some x) None related = lost x related
option_same R gained lost kept (Some x) (Some y) related = ap Some (kept x y related)

-- what holds, holds of an error
at_err : {A E : Type 0} {P : Type 0} → P → (r : Result A E) → OnErr r P
at_err holds (Ok _) = tt
at_err holds (Err _) = holds

pub invariant_of-result : goal.invariant_of-result
invariant_of-result g c =
    let same : c.in_ok-clone.field-0.items ≡ c.self.inside.slots.items = zip_same _ (option_same _ (λ y h. absurd h) (λ x h. absurd h) (λ x y h. c.requires x y h)) _ _ c.in_ok-clone.ensures.cases in
    rw (same, each_same _ _ c.in_ok-clone-2.ensures.cases) c.self.invariant

pub returns-clause-content : goal.returns-clause-content
returns-clause-content g c =
    let same : c.in_ok-clone.field-0.items ≡ c.self.inside.slots.items = zip_same _ (option_same _ (λ y h. absurd h) (λ x h. absurd h) (λ x y h. c.requires x y h)) _ _ c.in_ok-clone.ensures.cases in
    rw (same, ← c.self.view_is) refl

pub returns-in_err-clone-clause-may_fail : goal.returns-in_err-clone-clause-may_fail
returns-in_err-clone-clause-may_fail g c =
    let fallible : HasFallible g.T.Clone.is_infallible (content_from 0 c.self.inside.slots.items) = λ each. c.in_err-clone.ensures.cases (λ k d inside. elim (content_cases g.T.Clone.is_infallible c.self.inside.slots.items each k d inside) [
      | inl none ↦ rw none tt
      | inr some ↦ rw some.1 some.2
    ]) in
    rw (← c.self.view_is) (at_err fallible c.from_residual.result)
