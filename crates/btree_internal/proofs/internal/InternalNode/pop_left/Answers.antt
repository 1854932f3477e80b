use Rattle.btree_internal.proofs.BranchLemmas.{pop_left-view}
use Rattle.btree_internal.proofs.internal.InternalNode.pop_left.Goals as goal
use Rattle.btree_internal.proofs.Common.{common_steps, arith, rules, refl}

pub returns-clause-taken : goal.returns-clause-taken
returns-clause-taken g c = pop_left-view c.args.self.now _ c.self.inside.first c.self.inside.branches c.self.view_is c.remove-item.new.self c.remove-item.result c.remove-item.ensures.answer c.remove-item.ensures.after

pub has_spare-requires : goal.has_spare-requires
has_spare-requires g c = assumption

pub returns-then-not-has_spare-clause-spare : goal.returns-then-not-has_spare-clause-spare
returns-then-not-has_spare-clause-spare g c = search rules steps 200000

pub returns-then-not-has_spare-clause-taken : goal.returns-then-not-has_spare-clause-taken
returns-then-not-has_spare-clause-taken g c = search rules steps 200000

pub returns-then-not-has_spare-clause-short : goal.returns-then-not-has_spare-clause-short
returns-then-not-has_spare-clause-short g c = grind (arith, common_steps) steps 2000000

pub remove-item-requires : goal.remove-item-requires
remove-item-requires g c = grind (arith, common_steps) steps 2000000

pub returns-clause-short : goal.returns-clause-short
returns-clause-short g c = search rules steps 200000

pub returns-clause-spare : goal.returns-clause-spare
returns-clause-spare g c = c.if-not-has_spare.ensures.0 refl
