use Rattle.btree_internal.proofs.LookUpLemmas.{none-past}
use Rattle.btree_internal.proofs.Common.{items_of, internal_view, length-map, common_steps, arith, rules}
use Rattle.btree_internal.proofs.BranchLemmas.{replaced-view}
use Rattle.btree_internal.proofs.internal.InternalNode.replace.Goals as goal

pub returns-clause-after : goal.returns-clause-after
returns-clause-after g c = rw (c.unwrap-index.ensures.value, c.replace.ensures.after) (replaced-view c.args.self.now c.unwrap-index.result c.args.item)

pub unwrap-index-requires : goal.unwrap-index-requires
unwrap-index-requires g c = grind (arith, common_steps) steps 2000000

pub item_mut_at_index-requires : goal.item_mut_at_index-requires
item_mut_at_index-requires g c = assumption

pub replace-requires : goal.replace-requires
replace-requires g c κs = search rules steps 2000000

pub unreachable-unreachable : goal.unreachable-unreachable
unreachable-unreachable g c = search rules steps 200000

pub returns-clause-answer : goal.returns-clause-answer
returns-clause-answer g c = grind (arith, common_steps) steps 300000

pub unreachable-requires : goal.unreachable-requires
unreachable-requires g c = let low = rw c.unwrap-index.ensures.value at c.requires in let long = length-map c.args.self.now.branches (λ b. b.0) in none-past (items_of (internal_view c.args.self.now)) c.unwrap-index.result (omega (arith, low, long)) c.in-None.ensures.value
