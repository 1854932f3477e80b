use Rattle.btree_walk.proofs.Common.{◌+◌, ap, length, arith, bound_key, pair_past, pair_now, remaining_in_leaf}
use Rattle.btree_walk.proofs.NearLemmas.{cutting-next, cutting-start, cutting-end, cutting-stop}
use Rattle.btree_walk.proofs.near.last_of_leaf.Goals as goal

pub loop-pair-init : goal.loop-pair-init
loop-pair-init g c = cutting-start (pair_past g.K.Ord.cmp (bound_key c.args.end)) (remaining_in_leaf c.args.leaf c.args.passed)

pub loop-pair-preserved : goal.loop-pair-preserved
loop-pair-preserved g c =
    let asked = c.is_past.ensures in
    let no = c.if-is_past.false in
    cutting-next (pair_past g.K.Ord.cmp (bound_key c.args.end)) (remaining_in_leaf c.args.leaf c.args.passed) (pair_now c.loop-pair.last) (remaining_in_leaf c.args.leaf c.loop-pair.index)
    c.loop-pair.invariant (c.in-Some.pair.0.now, c.in-Some.pair.1.now) (remaining_in_leaf c.args.leaf (c.loop-pair.index + 1)) c.in-Some.ensures.first (cc)

pub returns : goal.returns
returns g c = cutting-end (pair_past g.K.Ord.cmp (bound_key c.args.end)) (remaining_in_leaf c.args.leaf c.args.passed) (pair_now c.loop-pair.last) (remaining_in_leaf c.args.leaf c.loop-pair.index) c.loop-pair.invariant c.in_default.ensures.first

pub loop-pair-smaller : goal.loop-pair-smaller
loop-pair-smaller g c = omega (arith, ap length c.in-Some.ensures.first)

pub next_in_leaf-requires : goal.next_in_leaf-requires
next_in_leaf-requires g c = assumption

pub returns-then-is_past : goal.returns-then-is_past
returns-then-is_past g c = let asked = c.is_past.ensures in let yes = c.if-is_past.true in cutting-stop (pair_past g.K.Ord.cmp (bound_key c.args.end)) (remaining_in_leaf c.args.leaf c.args.passed) (pair_now c.loop-pair.last) (remaining_in_leaf c.args.leaf c.loop-pair.index) c.loop-pair.invariant (c.in-Some.pair.0.now, c.in-Some.pair.1.now) (remaining_in_leaf c.args.leaf (c.loop-pair.index + 1)) c.in-Some.ensures.first (cc)
