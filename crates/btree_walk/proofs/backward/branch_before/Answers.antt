use Rattle.btree_walk.proofs.Common.{◌-◌, arith, sym, view_of, items_of}
use Rattle.btree_walk.proofs.BackLemmas.{row-at, row-leaf, row-none}
use Rattle.btree_walk.proofs.RowLemmas.{get-within}
use Rattle.btree_walk.proofs.backward.branch_before.Goals as goal

pub returns-then-passed-count-clause-last : goal.returns-then-passed-count-clause-last
returns-then-passed-count-clause-last g c = row-none (view_of c.args.node.now) c.args.passed (omega (arith, c.item_count-count.ensures.value))

pub returns-in_default-clause-last : goal.returns-in_default-clause-last
returns-in_default-clause-last g c =
    row-leaf (view_of c.args.node.now) c.args.passed (c.item_count-count.result - c.args.passed - 1) (sym c.in_default.ensures)
    (omega (arith, c.item_count-count.ensures.value))

pub unreachable-requires : goal.unreachable-requires
unreachable-requires g c =
    get-within (items_of (view_of c.args.node.now)) (c.item_count-count.result - c.args.passed - 1) c.in-None.ensures.item
    (omega (arith, c.item_count-count.ensures.value, c.if-passed-count.false))

pub returns-clause-last : goal.returns-clause-last
returns-clause-last g c =
    row-at (view_of c.args.node.now) c.args.passed c.in-Some-item_at_index.item _ c.item_count-count.result c.item_count-count.ensures.value c.if-passed-count.false
    c.in-Some-item_at_index.ensures.item (sym c.in-Some.ensures)

pub item_count-count-requires : goal.item_count-count-requires
item_count-count-requires g c = assumption

pub child_id_opt-requires : goal.child_id_opt-requires
child_id_opt-requires g c = assumption

pub item_at_index-requires : goal.item_at_index-requires
item_at_index-requires g c = assumption

pub returns-clause-fits : goal.returns-clause-fits
returns-clause-fits g c = omega (arith, c.item_count-count.ensures.fits, c.if-passed-count.false)
