use Rattle.btree_walk.proofs.Common.{arith, rules, fits-leaf}
use Rattle.btree_walk.proofs.walks.Back.start.Goals as goal

pub end-kept-requires : goal.end-kept-requires
end-kept-requires g c = (omega arith, (omega arith, (search rules, (search fits-leaf, (c.requires.none, c.requires.fetched)))))

pub run_to-self-requires : goal.run_to-self-requires
run_to-self-requires g c = (search fits-leaf, c.end-kept.ensures.kept)

pub returns-clause-above : goal.returns-clause-above
returns-clause-above g c = c.end-kept.ensures.above

pub returns-clause-fetched : goal.returns-clause-fetched
returns-clause-fetched g c = c.end-kept.ensures.fetched

pub returns-clause-behind : goal.returns-clause-behind
returns-clause-behind g c = rw c.run_to-self.ensures c.end-kept.ensures.left
