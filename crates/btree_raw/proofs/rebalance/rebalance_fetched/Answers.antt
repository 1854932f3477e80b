use Rattle.btree_raw.proofs.RebalanceLemmas.{fixing, fixed}
use Rattle.btree_raw.proofs.rebalance.rebalance_fetched.Goals as goal

pub fix_underflow_upward-requires : goal.fix_underflow_upward-requires
fix_underflow_upward-requires g c = λ κs out. (
  out.0,
  (out.1.0, (out.1.1.0, (out.1.1.1, (fixing g.K.Ord.cmp g.met.K.Ord.total c.args.tree.now c.args.id c.requires.off_by_one c.args.addr c.requires.valid c.requires.room, (c.requires.count, c.requires.parent))))),
)

pub returns : goal.returns
returns g c = fixed g.K.Ord.cmp g.met.K.Ord.total c.args.tree.now c.args.id c.requires.off_by_one c.args.addr c.requires.valid c.requires.room c.fix_underflow_upward.new.tree c.fix_underflow_upward.result c.fix_underflow_upward.ensures.fixed c.fix_underflow_upward.ensures.back c.fix_underflow_upward.ensures.settled
