use Rattle.btree_ext.proofs.Common.{IfErr-weaker, IfOk-weaker}
use Rattle.btree_ext.proofs.AbsentLemmas.{gap-for-absent, inserts-absent, refused-absent}
use Rattle.btree_ext.proofs.insertion.insert_absent.Goals as goal

pub insert_at_gap-requires-clause-gap : goal.insert_at_gap-requires-clause-gap
insert_at_gap-requires-clause-gap g c =
    rw c.new.ensures
    (gap-for-absent g.K.Ord.cmp g.met.K.Ord.total c.args.tree.now c.requires.tree c.args.key c.args.value c.requires.absent c.args.gap c.requires.gap)

pub returns-clause-inserted : goal.returns-clause-inserted
returns-clause-inserted g c =
    IfOk-weaker c.insert_at_gap.result _ _
    (inserts-absent g.K.Ord.cmp g.met.K.Ord.total c.args.tree.now c.requires.tree c.args.key c.args.value c.requires.absent c.args.gap c.requires.gap
    c.insert_at_gap.new.tree)
    (rw c.new.ensures at c.insert_at_gap.ensures.inserted)

pub returns-clause-cause : goal.returns-clause-cause
returns-clause-cause g c =
    IfErr-weaker c.insert_at_gap.result _ _
    (λ r. refused-absent g.K.Ord.cmp g.met.K.Ord.total c.args.tree.now c.requires.tree c.args.key c.args.value c.requires.absent c.args.gap c.requires.gap
    c.insert_at_gap.new.tree r.cause)
    c.insert_at_gap.ensures.refused
