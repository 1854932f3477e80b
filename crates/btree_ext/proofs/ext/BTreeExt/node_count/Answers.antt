use Rattle.btree_laws.proofs.Trees.States.{few-nodes}
use Rattle.btree_ext.proofs.ext.BTreeExt.node_count.Goals as goal

pub returns-clause-dense : goal.returns-clause-dense
returns-clause-dense g c =
    rw (c.node_count.ensures.value, c.as_raw.ensures.value)
    (few-nodes g.K.Ord.cmp (g.Self.BTreeExt.state c.args.self.now) c.as_raw.ensures.well_formed)
