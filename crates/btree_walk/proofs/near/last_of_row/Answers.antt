use Rattle.btree_walk.proofs.Common.{◌+◌, drop, ap, length, arith, view_of, branches_of, bound_key, branch_now, branch_past}
use Rattle.btree_walk.proofs.NearLemmas.{cutting-next, cutting-start, cutting-stop, cutting-end}
use Rattle.btree_walk.proofs.near.last_of_row.Goals as goal

pub loop-item-init : goal.loop-item-init
loop-item-init g c = cutting-start (branch_past g.K.Ord.cmp (bound_key c.args.end)) (drop c.args.passed (branches_of (view_of c.args.node.now)))

pub returns-then-is_past : goal.returns-then-is_past
returns-then-is_past g c =
    let asked = c.is_past.ensures in
    let yes = c.if-is_past.true in
    let key = c.key.ensures in
    cutting-stop (branch_past g.K.Ord.cmp (bound_key c.args.end)) (drop c.args.passed (branches_of (view_of c.args.node.now))) (branch_now c.loop-item.last)
    (drop c.loop-item.index (branches_of (view_of c.args.node.now))) c.loop-item.invariant (c.in-Some.item.now, c.in-Some.child) (drop (c.loop-item.index + 1) (branches_of (view_of c.args.node.now)))
    c.in-Some.ensures.first (cc)

pub loop-item-preserved : goal.loop-item-preserved
loop-item-preserved g c =
    let asked = c.is_past.ensures in
    let no = c.if-is_past.false in
    let key = c.key.ensures in
    let last = c.key-in-Some.ensures in
    let value = c.value.ensures in
    rw (last, value)
    (cutting-next (branch_past g.K.Ord.cmp (bound_key c.args.end)) (drop c.args.passed (branches_of (view_of c.args.node.now))) (branch_now c.loop-item.last)
    (drop c.loop-item.index (branches_of (view_of c.args.node.now))) c.loop-item.invariant (c.in-Some.item.now, c.in-Some.child) (drop (c.loop-item.index + 1) (branches_of (view_of c.args.node.now)))
    c.in-Some.ensures.first (cc))

pub returns : goal.returns
returns g c = cutting-end (branch_past g.K.Ord.cmp (bound_key c.args.end)) (drop c.args.passed (branches_of (view_of c.args.node.now))) (branch_now c.loop-item.last) (drop c.loop-item.index (branches_of (view_of c.args.node.now))) c.loop-item.invariant c.in_default.ensures.first

pub loop-item-smaller : goal.loop-item-smaller
loop-item-smaller g c = omega (arith, ap length c.in-Some.ensures.first)

pub branch_at_index-requires : goal.branch_at_index-requires
branch_at_index-requires g c = assumption
