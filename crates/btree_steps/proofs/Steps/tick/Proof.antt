-- `tick` writes no bytes, and adds one to the count.
use Rattle.std.proofs.Common.{◌+◌, [], ◌∷◌, refl}
use Rattle.std.proofs.raw_atomic.Walks.{proved}
use base.Fml.{ftrue, flft}
use mir.Syntax.{named}
use mir.Val.{vunit}
use types.Kit.{‵, ◌⊛◌, ◌$◌, ◌∵◌, !, qed, done, move, keep, split, join, fsplit3, feq_i, suffices, frame, group}
use types.Run.{enter, of_opd, unit_lit, returns}
use types.ByLocal.{alloc_all, pass_all, free_all, look_at, sets}
use denote.Ref.{MutRef, mut_vals, mut_Tells}
use denote.Signature.{plain}
use denote.Steps.{nothing, opens, closes}
use denote.Triple.Walked.{Stays, walk_of, says, stay_ref, Goes-ref, ends_at}
use Rattle.btree_steps.specs.contracts.Steps.tick as contract
use Rattle.btree_steps.specs.contracts.Steps.{the_row as steps_row}
use Rattle.btree_steps.proofs.Steps.tick.Statement.{statement}
use Rattle.btree_steps.proofs.Steps.tick.Code as code

abbrev stayed : Stays contract.ended.signature.params contract.ended.kept
stayed = (stay_ref (0 ∷ []) tt (plain (λ _. steps_row)), tt)

pub tick_spec : {M : Type 1} → statement M
tick_spec 𝓤 𝓛 𝓜 𝓡 wired =
    let clauses = contract.clauses 𝓛 𝓜.mem 𝓡.returns in
    let W = walk_of 𝓛 contract.ended stayed clauses in
    proved 𝓛 contract.ended stayed clauses 𝓜 𝓡 (Goes-ref 𝓛 1 0 tt (plain (λ _. steps_row)), tt)
    contract.Key.name code.function (code.unfolded 𝓤 𝓛.H 𝓜 𝓡 wired)
    (λ κs. (mut_vals, tt)) (λ κs. (mut_Tells (named 0) κs.0 steps_row, tt)) (λ κs qs bounds a _ are.
    let block = a.0.ref_ptr.0 in let offset = a.0.ref_ptr.1 in let vs = mut_vals a.0 in
    let entry : W.Ghost = ((κs, qs, bounds, a, (vs, tt)), tt) in
    let ticked : steps_row.Denot = record a.0.now { count = a.0.now.count + 1 } in
    qed 𝓛 (((‵ (flft κs.0 qs.0) ⊛ ‵ ftrue) ⊛ ‵ ((MutRef (named 0) κs.0 steps_row).own_val a.0 vs) ⊛ ‵ ftrue) ∷ ‵ ftrue ∷ []) ∵
    split ! $ split ! $ move ! (2 ∷ []) $ split ! $ keep ! (0 ∷ 2 ∷ []) $
    enter ! _ _ _ _ _ $ alloc_all ! (λ l. pass_all ! refl ((tt, tt), tt) $
    -- opened at the old count, and closed at the new one
    fsplit3 ! $ move ! (1 ∷ 2 ∷ 3 ∷ []) $ opens ! tt steps_row block offset (λ us.
    closes ! tt steps_row ticked us block offset $
    sets ! (of_opd ! (unit_lit !)) refl (tt, tt) $
    returns ! (look_at ! 0 refl) $ free_all ! refl $ move ! (3 ∷ []) $
    suffices ! _ (ends_at 𝓛 contract.ended stayed clauses entry vunit tt (ticked, tt) (tt, tt)) $ says ! refl $
    group ! 3 $ nothing ! $ move ! (1 ∷ 0 ∷ []) $ join ! $ nothing ! $ move ! (2 ∷ 0 ∷ []) $ join ! $ frame ! $ frame ! $
    feq_i ! _ (vunit ∷ []) _ refl $ done !)))
