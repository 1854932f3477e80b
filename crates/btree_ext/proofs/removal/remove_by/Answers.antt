use Rattle.btree_ext.proofs.RemoveByKeyLemmas.{entry-found, removed-absent, removed-by, removed-list}
use Rattle.btree_ext.proofs.removal.remove_by.Goals as goal

pub returns-in-Some-clause-entry : goal.returns-in-Some-clause-entry
returns-in-Some-clause-entry g c =
    entry-found g.K.Ord.cmp g.Q.Query.compare g.met.Q.Query.cuts c.args.tree.now c.requires c.args.query.now c.in-Ok.addr c.in-Ok.ensures
    c.remove_at.new.tree c.in-Some.item c.in-Some.field-0-1 c.in-Some.ensures.removed

pub returns-in-Some-clause-removed_by : goal.returns-in-Some-clause-removed_by
returns-in-Some-clause-removed_by g c =
    removed-by g.K.Ord.cmp g.Q.Query.compare g.met.Q.Query.cuts c.args.tree.now c.requires c.args.query.now c.in-Ok.addr c.in-Ok.ensures
    c.remove_at.new.tree c.in-Some.item c.in-Some.field-0-1 c.in-Some.ensures.removed

pub returns-in-Some-clause-removed : goal.returns-in-Some-clause-removed
returns-in-Some-clause-removed g c =
    removed-list g.K.Ord.cmp g.Q.Query.compare g.met.Q.Query.cuts c.args.tree.now c.requires c.args.query.now c.in-Ok.addr c.in-Ok.ensures
    c.remove_at.new.tree c.in-Some.item c.in-Some.field-0-1 c.in-Some.ensures.removed

pub returns-in-Err-clause-removed : goal.returns-in-Err-clause-removed
returns-in-Err-clause-removed g c = removed-absent g.Q.Query.compare c.args.tree.now c.args.query.now _ c.in-Err.ensures
