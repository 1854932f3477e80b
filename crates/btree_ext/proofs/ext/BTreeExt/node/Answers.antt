use Rattle.btree_ext.proofs.Common.{arith}
use Rattle.btree_ext.proofs.ext.BTreeExt.node.Goals as goal

pub node-requires : goal.node-requires
node-requires g c = (omega arith, rw c.as_raw.ensures.value c.requires)

pub returns : goal.returns
returns g c = rw (← c.as_raw.ensures.value) c.node.ensures.value
