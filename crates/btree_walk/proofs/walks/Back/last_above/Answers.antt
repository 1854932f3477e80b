use Rattle.btree_walk.proofs.Common.{arith, rules, append-nil, ◌∙◌, refl, fits-leaf}
use Rattle.btree_walk.proofs.walks.Back.last_above.Goals as goal

pub previous_above-requires : goal.previous_above-requires
previous_above-requires g c = (omega arith, (omega arith, (search rules, (search fits-leaf, (c.requires.above, c.requires.fetched)))))

pub run_to-self-requires : goal.run_to-self-requires
run_to-self-requires g c = (search fits-leaf, c.in-Some.ensures.kept)

pub returns-in-Some-clause-above : goal.returns-in-Some-clause-above
returns-in-Some-clause-above g c = c.previous_above.ensures.above

pub returns-in-Some-clause-fetched : goal.returns-in-Some-clause-fetched
returns-in-Some-clause-fetched g c = c.previous_above.ensures.fetched

pub returns-in-None-clause-above : goal.returns-in-None-clause-above
returns-in-None-clause-above g c = c.previous_above.ensures.above

pub returns-in-None-clause-fetched : goal.returns-in-None-clause-fetched
returns-in-None-clause-fetched g c = c.previous_above.ensures.fetched

pub returns-in-Some-clause-last : goal.returns-in-Some-clause-last
returns-in-Some-clause-last g c = rw (c.requires.passed, c.run_to-self.ensures) (append-nil _ ∙ c.in-Some.ensures.left)

pub returns-in-None-clause-last : goal.returns-in-None-clause-last
returns-in-None-clause-last g c = (rw (c.requires.passed, c.in-None.ensures.left.0) refl, rw (c.requires.passed, c.in-None.ensures.left.1) refl)
