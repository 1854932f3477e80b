use Rattle.btree_walk.proofs.Common.{◌∷◌, Some, arith, ap, ◌∙◌, fits-leaf, ascends, rises, bound_key, ahead_of, pair_now}
use Rattle.btree_walk.proofs.NearLemmas.{map-or}
use Rattle.btree_walk.proofs.RangeLemmas.{last-cons, last-past}
use Rattle.btree_walk.proofs.range.last_from.Goals as goal

pub returns-then-is_past : goal.returns-then-is_past
returns-then-is_past g c =
    let asked = c.is_past.ensures in
    let yes = c.if-is_past.true in
    let up = rises {V = g.row.V.Denot} g.K.Ord.cmp ((c.in-Some.pair.0.now, c.in-Some.pair.1.now) ∷ ahead_of c.args.tree.now c.args.front.now) (rw c.in-Some.is at c.requires.rises) in
    rw c.in-Some.is (last-past g.met.K.Ord.total (bound_key c.args.end) (c.in-Some.pair.0.now, c.in-Some.pair.1.now) (ahead_of c.args.tree.now c.args.front.now) up (cc))

pub last_within-requires : goal.last_within-requires
last_within-requires g c =
    let up = rises {V = g.row.V.Denot} g.K.Ord.cmp ((c.in-Some.pair.0.now, c.in-Some.pair.1.now) ∷ ahead_of c.args.tree.now c.args.front.now) (rw c.in-Some.is at c.requires.rises) in
    (search fits-leaf, (omega arith, (c.requires.above, ascends g.K.Ord.cmp (ahead_of c.args.tree.now c.args.front.now) up.1)))

pub returns : goal.returns
returns g c =
    let asked = c.is_past.ensures in
    let no = c.if-is_past.false in
    rw (c.in-Some.is, ap pair_now c.or.ensures ∙ map-or (λ p. (p.0.now, p.1.now)) c.last_within.result (Some c.in-Some.pair))
    (last-cons g.met.K.Ord.total (bound_key c.args.end) (c.in-Some.pair.0.now, c.in-Some.pair.1.now) (ahead_of c.args.tree.now c.args.front.now) (pair_now c.last_within.result) c.last_within.ensures (cc))
