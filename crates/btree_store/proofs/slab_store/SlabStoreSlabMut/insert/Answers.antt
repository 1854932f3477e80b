use Rattle.std.proofs.Common.{◌≡◌, ◌∙◌, Result, Ok, Err, is_ok, is_err, true, sym, arith}
use Rattle.btree_store.specs.SlotLaws.{content-insert}
use Rattle.btree_store.proofs.slab_store.SlabStoreSlabMut.insert.Goals as goal

pub returns-clause-stored : goal.returns-clause-stored
returns-clause-stored g c =
    let stored = content-insert _ _ _ _ c.insert_reserved-id.ensures.updates.changed c.insert_reserved-id.ensures.updates.others in
    rw c.reserve.ensures.rest_kept at stored

pub returns-then-is_err-clause-counted : goal.returns-then-is_err-clause-counted
returns-then-is_err-clause-counted g c = omega (arith, c.tick.ensures)

refused : {A B : Type 0} (r : Result A B) → is_ok r ≡ true → is_err r ≡ true → ⊥
refused (Ok x) _ is = absurd (cc)
refused (Err e) is _ = absurd (cc)

pub returns-then-is_err-clause-full : goal.returns-then-is_err-clause-full
returns-then-is_err-clause-full g c = λ room. refused c.reserve.result (c.reserve.ensures.succeeds room) (sym c.is_err.ensures.value ∙ c.if-is_err.true)
