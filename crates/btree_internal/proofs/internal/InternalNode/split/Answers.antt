use Rattle.btree_internal.proofs.Common.{arith, sym, ◌∙◌, length-map, branch_pair, common_steps}
use Rattle.btree_internal.proofs.BranchLemmas.{long_as_items}
use Rattle.btree_view.proofs.Cuts.{last_is_there, parts_of_split, front_of_split, back_of_split}
use Rattle.btree_internal.proofs.InternalSplit.{IsSplit-internal}
use Rattle.btree_internal.proofs.internal.InternalNode.split.Goals as goal

pub unwrap-item-requires : goal.unwrap-item-requires
unwrap-item-requires g c =
    let long = long_as_items c.args.self.now _ c.self.inside.first c.self.inside.branches c.self.view_is in
    last_is_there c.self.inside.branches c.split_off-branches.new.self 3 _ (omega (arith, long, c.requires)) c.split_off-branches.ensures.after c.pop.ensures.answer

pub returns-clause-parts : goal.returns-clause-parts
returns-clause-parts g c =
    let long = long_as_items c.args.self.now _ c.self.inside.first c.self.inside.branches c.self.view_is in
    let x_is = sym c.unwrap-item.ensures ∙ c.pop.ensures.answer in
    let parts = parts_of_split c.self.inside.branches _ c.split_off-branches.new.self c.pop.new.self 3 c.unwrap-item.result (omega (arith, long, c.requires)) c.split_off-branches.ensures.answer c.split_off-branches.ensures.after x_is c.pop.ensures.after in
    let front = front_of_split c.self.inside.branches _ c.split_off-branches.new.self c.pop.new.self 3 c.unwrap-item.result (omega (arith, long, c.requires)) c.split_off-branches.ensures.answer c.split_off-branches.ensures.after x_is c.pop.ensures.after in
    IsSplit-internal c.args.self.now _ c.self.inside.first c.self.inside.branches c.self.view_is c.pop.new.self c.split_off-branches.result c.unwrap-item.result parts front

pub returns-clause-left : goal.returns-clause-left
returns-clause-left g c =
    let long = long_as_items c.args.self.now _ c.self.inside.first c.self.inside.branches c.self.view_is in
    let x_is = sym c.unwrap-item.ensures ∙ c.pop.ensures.answer in
    let front = front_of_split c.self.inside.branches _ c.split_off-branches.new.self c.pop.new.self 3 c.unwrap-item.result (omega (arith, long, c.requires)) c.split_off-branches.ensures.answer c.split_off-branches.ensures.after x_is c.pop.ensures.after in
    c.len.ensures.value ∙ front

pub returns-clause-right : goal.returns-clause-right
returns-clause-right g c =
    let long = long_as_items c.args.self.now _ c.self.inside.first c.self.inside.branches c.self.view_is in
    let back = back_of_split c.self.inside.branches c.split_off-branches.result 3 c.split_off-branches.ensures.answer in
    let items = length-map c.args.self.now.branches (λ b. b.0) in
    let mapped = length-map c.split_off-branches.result branch_pair in
    omega (arith, long, c.requires, back, mapped, items, c.item_count-count.ensures.fits, c.item_count-count.ensures.value)

pub item_count-count-requires : goal.item_count-count-requires
item_count-count-requires g c = omega arith

pub split_off-branches-requires : goal.split_off-branches-requires
split_off-branches-requires g c = grind (arith, common_steps) steps 2000000

pub pop-requires : goal.pop-requires
pop-requires g c = grind (arith, common_steps) steps 300000

pub len-requires : goal.len-requires
len-requires g c = omega arith
