use Rattle.btree_internal.proofs.Common.{sym, ◌∙◌, arith, rules, refl, common_steps}
use Rattle.btree_internal.proofs.BranchLemmas.{pop_right-view, long_as_items}
use Rattle.btree_item.proofs.StoreLemmas.{is_some-within}
use Rattle.btree_internal.proofs.internal.InternalNode.pop_right.Goals as goal

pub returns-clause-taken : goal.returns-clause-taken
returns-clause-taken g c = pop_right-view c.args.self.now _ c.self.inside.first c.self.inside.branches c.self.view_is c.pop.new.self c.unwrap-item.result (sym c.unwrap-item.ensures ∙ c.pop.ensures.answer) c.pop.ensures.after

pub returns-clause-spare : goal.returns-clause-spare
returns-clause-spare g c = c.if-not-has_spare.ensures.0 refl

pub has_spare-requires : goal.has_spare-requires
has_spare-requires g c = assumption

pub returns-then-not-has_spare-clause-spare : goal.returns-then-not-has_spare-clause-spare
returns-then-not-has_spare-clause-spare g c = search rules steps 200000

pub returns-then-not-has_spare-clause-offset : goal.returns-then-not-has_spare-clause-offset
returns-then-not-has_spare-clause-offset g c = search rules steps 200000

pub returns-then-not-has_spare-clause-taken : goal.returns-then-not-has_spare-clause-taken
returns-then-not-has_spare-clause-taken g c = search rules steps 200000

pub returns-then-not-has_spare-clause-short : goal.returns-then-not-has_spare-clause-short
returns-then-not-has_spare-clause-short g c = grind (arith, common_steps) steps 2000000

pub pop-requires : goal.pop-requires
pop-requires g c = grind (arith, common_steps) steps 300000

pub item_count-requires : goal.item_count-requires
item_count-requires g c = assumption

pub offset_at-requires : goal.offset_at-requires
offset_at-requires g c = search rules steps 200000

pub returns-clause-offset : goal.returns-clause-offset
returns-clause-offset g c = search rules steps 200000

pub returns-clause-short : goal.returns-clause-short
returns-clause-short g c = search rules steps 200000

pub unwrap-item-requires : goal.unwrap-item-requires
unwrap-item-requires g c =
    let long = long_as_items c.args.self.now _ c.self.inside.first c.self.inside.branches c.self.view_is in
    let spare = c.if-not-has_spare.ensures.0 refl in
    rw c.pop.ensures.answer (is_some-within c.self.inside.branches _ (omega (arith, long, spare)))
