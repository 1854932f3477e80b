use Rattle.btree_set.proofs.Common.{◌∙◌, ◌∷◌, ap, keys_of, pairs_of, set_of}
use Rattle.std.proofs.lemmas.List.{map-append}
use Rattle.std.specs.declared.ops.Bound.TheVariants.{Included}
use Rattle.btree_set.proofs.KeyLemmas.{filter-keys, from-keys, same-units, turn-refused}
use Rattle.btree_set.proofs.set.BTreeSet.split_off.Goals as goal

pub returns-in-Ok-clause-kept : goal.returns-in-Ok-clause-kept
returns-in-Ok-clause-kept g c = rw (← c.self.view_is) (ap (λ l. keys_of l) c.in-Ok.ensures.kept ∙ filter-keys _ (pairs_of c.self.inside.map))

pub returns-in-Ok-clause-moved : goal.returns-in-Ok-clause-moved
returns-in-Ok-clause-moved g c = rw (← c.self.view_is) (ap (λ l. keys_of l) c.in-Ok.ensures.moved ∙ filter-keys _ (pairs_of c.self.inside.map))

pub returns-in-Ok-clause-unchanged : goal.returns-in-Ok-clause-unchanged
returns-in-Ok-clause-unchanged g c same =
    let elements = rw (← c.self.view_is) at same in
    ap set_of (c.in-Ok.ensures.unchanged (same-units _ _ elements)) ∙ c.self.view_is

pub returns-in-Ok-clause-frees : goal.returns-in-Ok-clause-frees
returns-in-Ok-clause-frees g c = rw (← c.self.view_is) c.in-Ok.ensures.frees

pub returns-in-Err-clause-frees : goal.returns-in-Err-clause-frees
returns-in-Err-clause-frees g c = rw (← c.self.view_is) c.in-Err.ensures.frees

pub returns-in-Err-clause-stopped : goal.returns-in-Err-clause-stopped
returns-in-Err-clause-stopped g c =
    rw (← c.self.view_is)
    (ap (λ l. keys_of l) c.in-Err.ensures.stopped ∙ map-append (λ x. x.0) (pairs_of c.split_off.new.self) ((c.in-Err.refused.key, c.in-Err.refused.value) ∷ pairs_of c.in-Err.map))

pub returns-in-Err-clause-from : goal.returns-in-Err-clause-from
returns-in-Err-clause-from g c =
    from-keys g.T.Ord.cmp (Included c.args.element.now) ((c.in-Err.refused.key, c.in-Err.refused.value) ∷ pairs_of c.in-Err.map) c.in-Err.ensures.from

pub returns-in-Err-clause-cause : goal.returns-in-Err-clause-cause
returns-in-Err-clause-cause g c = turn-refused g.C.NodesMut.MayRefuse g.T.Ord.cmp c.in-Err.refused.key _ c.in-Err.map c.in-Err.refused.cause c.in-Err.ensures.cause
