use Rattle.btree_node.proofs.Common.{arith, rules, common_steps}
use Rattle.std.proofs.lemmas.List.{drop_all}
use Rattle.btree_node.proofs.NodeSizes.{fits-internal, fits-branches}
use Rattle.btree_node.proofs.RoomLemmas.{drop-at_branch, drop-no_branch}
use Rattle.btree_node.proofs.node.Node.branch_at_index.Goals as goal

pub item_count-requires : goal.item_count-requires
item_count-requires g c = search fits-internal

pub returns-then-index-item_count-clause-first : goal.returns-then-index-item_count-clause-first
returns-then-index-item_count-clause-first g c =
    rw c.in-Internal.is (drop_all c.args.index c.in-Internal.node.branches (omega (arith, c.item_count.ensures.value, c.if-index-item_count.true)))

pub branches-requires : goal.branches-requires
branches-requires g c = (search fits-internal, search fits-branches)

pub get-requires : goal.get-requires
get-requires g c = search fits-branches

pub returns-in-Some-clause-first : goal.returns-in-Some-clause-first
returns-in-Some-clause-first g c = rw c.in-Internal.is (drop-at_branch _ _ c.branches.ensures _ _ c.in-Some.ensures)

pub returns-in-None-clause-first : goal.returns-in-None-clause-first
returns-in-None-clause-first g c = rw c.in-Internal.is (drop-no_branch _ _ c.branches.ensures _ c.in-None.ensures)

pub returns-in_default-clause-fits : goal.returns-in_default-clause-fits
returns-in_default-clause-fits g c = search rules steps 200000

pub returns-in_default-clause-first : goal.returns-in_default-clause-first
returns-in_default-clause-first g c = grind (arith, common_steps) steps 2000000

pub returns-then-index-item_count-clause-fits : goal.returns-then-index-item_count-clause-fits
returns-then-index-item_count-clause-fits g c = search rules steps 200000

pub returns-in-Some-clause-fits : goal.returns-in-Some-clause-fits
returns-in-Some-clause-fits g c = grind (arith, common_steps) steps 300000

pub returns-in-None-clause-fits : goal.returns-in-None-clause-fits
returns-in-None-clause-fits g c = search rules steps 200000
