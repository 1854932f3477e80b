use Rattle.btree_walk.proofs.Common.{arith, append_assoc, sym, ◌∷◌, []}
use Rattle.btree_walk.specs.Preceding.{preceding_in_ancestors}
use Rattle.btree_walk.specs.Rows.{run_left}
use Rattle.btree_walk.proofs.walks.Back.next_back.Goals as goal

pub last_above-requires : goal.last_above-requires
last_above-requires g c = (omega arith, (c.requires.above, (c.requires.fetched, c.in_default.ensures.1)))

pub returns-in-Some-clause-above : goal.returns-in-Some-clause-above
returns-in-Some-clause-above g c = c.requires.above

pub returns-in-Some-clause-fetched : goal.returns-in-Some-clause-fetched
returns-in-Some-clause-fetched g c = c.requires.fetched

pub returns-clause-above : goal.returns-clause-above
returns-clause-above g c = c.last_above.ensures.above

pub returns-clause-fetched : goal.returns-clause-fetched
returns-clause-fetched g c = c.last_above.ensures.fetched

pub returns-in-Some-clause-last : goal.returns-in-Some-clause-last
returns-in-Some-clause-last g c = rw c.in-Some.ensures (sym (append_assoc (preceding_in_ancestors c.args.tree.now c.args.self.now.ancestors) (run_left c.last_in_run.new.run) ((c.in-Some.pair.0.now, c.in-Some.pair.1.now) ∷ [])))

pub returns-clause-last : goal.returns-clause-last
returns-clause-last g c = rw c.in_default.ensures.0 (rw c.in_default.ensures.1 at c.last_above.ensures.last)
