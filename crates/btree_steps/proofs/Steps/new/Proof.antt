-- `new` makes a value without bytes, with the count 0.
use Rattle.std.proofs.Common.{[], ◌∷◌, refl}
use Rattle.std.proofs.raw_atomic.Walks.{proved}
use base.Fml.{Fml, ftrue}
use mir.Val.{Val, vstruct, vcons, vnil}
use types.Kit.{‵, ◌⊛◌, ◌$◌, ◌∵◌, !, qed, done, keep, suffices, use0}
use types.Run.{no_more, and_then, enter, returns}
use types.Part.{agg}
use types.ByLocal.{alloc_all, pass_all, free_all, look_at, get, sets}
use denote.Shadow.{makes_shadow}
use denote.Steps.{nothing}
use denote.Triple.Walked.{Stays, walk_of, says, ends_at}
use Rattle.btree_steps.specs.contracts.Steps.new as contract
use Rattle.btree_steps.specs.contracts.Steps.{the_row as steps_row}
use Rattle.btree_steps.proofs.Steps.new.Statement.{statement}
use Rattle.btree_steps.proofs.Steps.new.Code as code

abbrev stayed : Stays contract.ended.signature.params contract.ended.kept
stayed = tt

pub new_spec : {M : Type 1} → statement M
new_spec 𝓤 𝓛 𝓜 𝓡 wired =
    let clauses = contract.clauses 𝓛 𝓜.mem 𝓡.returns in
    let W = walk_of 𝓛 contract.ended stayed clauses in
    proved 𝓛 contract.ended stayed clauses 𝓜 𝓡 tt
    contract.Key.name code.function (code.unfolded 𝓤 𝓛.H 𝓜 𝓡 wired)
    (λ κs. tt) (λ κs. tt) (λ κs qs bounds a _ are.
    let entry : W.Ghost = ((κs, qs, bounds, a, tt), tt) in
    let v : Val = vstruct (vcons (vstruct vnil) vnil) in
    let fresh : steps_row.Denot = record { marker = record {}; count = 0 } in
    let owned : Fml = steps_row.own_val fresh (v ∷ []) in
    qed 𝓛 ((‵ ftrue ⊛ ‵ ftrue) ∷ ‵ ftrue ∷ []) ∵ keep ! [] $
    enter ! _ _ _ _ _ $ alloc_all ! (λ l. pass_all ! refl tt $
    -- the two writes of the body: the marker, and the struct around it
    sets ! (agg ! (no_more !)) refl (tt, tt) $
    sets ! (agg ! (and_then ! (get ! refl) (no_more !))) refl (tt, (tt, tt)) $
    returns ! (look_at ! 0 refl) $ free_all ! refl $
    suffices ! _ (ends_at 𝓛 contract.ended stayed clauses entry v fresh tt tt) $ says ! refl $
    -- the value is owned with a count of 0
    use0 𝓛 (‵ owned) (makes_shadow 𝓛 owned ((λ vss. (tt, ((λ uss. (tt, tt)), tt))), tt) (((vstruct vnil ∷ [], tt), (refl, ((tt, (refl, tt)), tt))), tt)) $
    nothing ! $ nothing ! $ done !))
