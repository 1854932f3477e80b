use Rattle.btree_range_set.proofs.Common.{arith}
use Rattle.btree_range_set.proofs.PlaceLemmas.{around-before, around-found, around-none, ends-none, ends-some}
use Rattle.btree_range_set.proofs.edits.range_around.Goals as goal

pub returns-in-Ok-clause-around : goal.returns-in-Ok-clause-around
returns-in-Ok-clause-around g c = around-found c.args.map.now c.args.number c.in-Ok.at _ c.in-Ok.ensures c.pair_at.ensures c.requires

pub returns-in_default-clause-none : goal.returns-in_default-clause-none
returns-in_default-clause-none g c =
    let s = c.args.map.now in
    let f = c.in-Err.ensures.fits in
    around-none s c.args.number c.in-Err.gap f.place f.has f.fits c.requires
    (ends-none s c.in-Err.gap c.args.number f.place f.has f.fits _ c.in_default.ensures)

pub returns-then-number-end-clause-around : goal.returns-then-number-end-clause-around
returns-then-number-end-clause-around g c =
    let s = c.args.map.now in
    let f = c.in-Err.ensures.fits in
    around-before s c.args.number c.in-Err.gap f.place f.has f.fits c.in-Some.before _ c.in-Some.ensures c.pair_at-2.ensures (omega (arith, c.if-number-end.true))

pub returns-clause-none : goal.returns-clause-none
returns-clause-none g c =
    let s = c.args.map.now in
    let f = c.in-Err.ensures.fits in
    let high = c.if-number-end.false in
    around-none s c.args.number c.in-Err.gap f.place f.has f.fits c.requires
    (ends-some s c.in-Err.gap c.args.number f.place f.has f.fits c.in-Some.before _ _ c.in-Some.ensures c.pair_at-2.ensures (omega (arith, high)))
