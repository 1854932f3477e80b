use Rattle.btree_raw.proofs.RebalanceLemmas.{off-used}
use Rattle.btree_raw.proofs.raw.RawBTree.rebalance.Goals as goal
use Rattle.btree_raw.proofs.Common.{common_steps, arith, rules}

pub node-requires : goal.node-requires
node-requires g c = (c.tell_fits.ensures, off-used g.K.Ord.cmp g.met.K.Ord.total c.args.self.now c.args.id c.requires.off_by_one)

pub tell_fits-requires : goal.tell_fits-requires
tell_fits-requires g c κs = search rules steps 200000

pub returns-then-is_overflowing-clause-rebalanced :
    goal.returns-then-is_overflowing-clause-rebalanced
returns-then-is_overflowing-clause-rebalanced g c = search rules steps 200000

pub returns-then-is_overflowing-clause-refused : goal.returns-then-is_overflowing-clause-refused
returns-then-is_overflowing-clause-refused g c = search rules steps 200000

pub rebalance_underflow-requires-clause-off_by_one : goal.rebalance_underflow-requires-clause-off_by_one
rebalance_underflow-requires-clause-off_by_one g c = search rules steps 200000

pub rebalance_underflow-requires-clause-valid : goal.rebalance_underflow-requires-clause-valid
rebalance_underflow-requires-clause-valid g c = search rules steps 200000

pub rebalance_underflow-requires-clause-room : goal.rebalance_underflow-requires-clause-room
rebalance_underflow-requires-clause-room g c = grind (arith, common_steps) steps 300000

pub returns-clause-rebalanced : goal.returns-clause-rebalanced
returns-clause-rebalanced g c = search rules steps 200000

pub returns-clause-refused : goal.returns-clause-refused
returns-clause-refused g c = search rules steps 200000

pub is_overflowing-requires : goal.is_overflowing-requires
is_overflowing-requires g c = c.tell_fits.ensures
