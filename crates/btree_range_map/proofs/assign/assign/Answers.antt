use Rattle.btree_range_map.proofs.Common.{refl, arith, inr, pairs_of, JoinsNone}
use Rattle.btree_range_map.proofs.EnterLemmas.{enter-apart, enter-cuts, enter-fails, enter-first, enter-joined, enter-joins, enter-none, enter-over, enter-splits}
use Rattle.btree_range_map.proofs.PlaceLemmas.{clone-same, on-error, refused-two, told-apart, told-same}
use Rattle.btree_range_map.proofs.assign.assign.Goals as goal

pub put-requires-clause-can : goal.put-requires-clause-can
put-requires-clause-can g c =
    enter-first c.args.map.now c.place_for-at.result c.args.start c.args.span c.place_for-at.ensures c.requires.runs c.requires.some c.in_default.ensures

pub put-requires-then-last-start-clause-can : goal.put-requires-then-last-start-clause-can
put-requires-then-last-start-clause-can g c =
    let before = c.if-last-start.true in
    enter-apart c.args.map.now c.place_for-at.result c.args.start c.args.span c.place_for-at.ensures c.requires.runs c.requires.some c.in-Some.before _
    c.in-Some.ensures c.pair_at.ensures (omega (arith, before)) (λ touch value. absurd (omega (arith, before, touch)))

pub absorb-requires-clause-can : goal.absorb-requires-clause-can
absorb-requires-clause-can g c =
    enter-joins c.args.map.now c.place_for-at.result c.args.start c.args.span c.place_for-at.ensures c.requires.runs c.requires.some c.in-Some.before _
    c.in-Some.ensures c.pair_at.ensures _ c.max-end.ensures refl (told-same _ c.requires.same _ _ _ c.eq.ensures c.if-eq.true)

pub returns-then-eq-clause-assigned : goal.returns-then-eq-clause-assigned
returns-then-eq-clause-assigned g c =
    let from = c.if-last-start.false in
    enter-joined c.args.map.now c.place_for-at.result c.args.start c.args.span c.place_for-at.ensures c.requires.runs c.requires.some c.in-Some.before _
    c.in-Some.ensures c.pair_at.ensures _ c.max-end.ensures refl (told-same _ c.requires.same _ _ _ c.eq.ensures c.if-eq.true) (omega (arith, from))
    c.absorb.new.map c.absorb.ensures

pub put-requires-then-last-start-2-clause-can : goal.put-requires-then-last-start-2-clause-can
put-requires-then-last-start-2-clause-can g c =
    let end = c.if-last-start-2.true in
    let differ = told-apart _ c.requires.same _ _ _ c.eq.ensures c.if-eq.false in
    enter-apart c.args.map.now c.place_for-at.result c.args.start c.args.span c.place_for-at.ensures c.requires.runs c.requires.some c.in-Some.before _
    c.in-Some.ensures c.pair_at.ensures (omega (arith, end)) (λ touch. differ)

pub split-requires : goal.split-requires
split-requires g c =
    let differ = told-apart _ c.requires.same _ _ _ c.eq.ensures c.if-eq.false in
    let past = c.if-span-last.true in
    rw (clone-same _ c.requires.clones _ _ c.in-Ok.ensures.cases)
    (enter-splits c.args.map.now c.place_for-at.result c.args.start c.args.span c.place_for-at.ensures c.requires.runs c.requires.some c.in-Some.before _
    c.in-Some.ensures c.pair_at.ensures differ (omega (arith, past)))

pub returns-then-span-last-clause-joins_none : goal.returns-then-span-last-clause-joins_none
returns-then-span-last-clause-joins_none g c =
    let differ = told-apart _ c.requires.same _ _ _ c.eq.ensures c.if-eq.false in
    let past = c.if-span-last.true in
    on-error c.split.result (JoinsNone (pairs_of c.args.map.now) c.args.start c.args.span.end c.args.span.value)
    (enter-none c.args.map.now c.place_for-at.result c.args.start c.args.span c.place_for-at.ensures c.requires.runs c.requires.some c.in-Some.before _
    c.in-Some.ensures c.pair_at.ensures differ (omega (arith, past)))

pub returns-in-Err-clause-joins_none : goal.returns-in-Err-clause-joins_none
returns-in-Err-clause-joins_none g c =
    let differ = told-apart _ c.requires.same _ _ _ c.eq.ensures c.if-eq.false in
    let past = c.if-span-last.true in
    enter-none c.args.map.now c.place_for-at.result c.args.start c.args.span c.place_for-at.ensures c.requires.runs c.requires.some c.in-Some.before _
    c.in-Some.ensures c.pair_at.ensures differ (omega (arith, past))

pub returns-in-Err-clause-cause : goal.returns-in-Err-clause-cause
returns-in-Err-clause-cause g c =
    let differ = told-apart _ c.requires.same _ _ _ c.eq.ensures c.if-eq.false in
    let past = c.if-span-last.true in
    inr (inr (enter-fails c.args.map.now c.place_for-at.result c.args.start c.args.span c.place_for-at.ensures c.requires.runs c.requires.some c.in-Some.before _
    c.in-Some.ensures c.pair_at.ensures differ (omega (arith, past)) _ c.in-Err.ensures.cases))

pub put_over-requires-clause-can : goal.put_over-requires-clause-can
put_over-requires-clause-can g c =
    let differ = told-apart _ c.requires.same _ _ _ c.eq.ensures c.if-eq.false in
    let from = c.if-last-start.false in
    let past = c.if-span-last.false in
    let apart = c.if-last-start-2.false in
    enter-over c.args.map.now c.place_for-at.result c.args.start c.args.span c.place_for-at.ensures c.requires.runs c.requires.some c.in-Some.before _
    c.in-Some.ensures c.pair_at.ensures differ
    (omega (arith, from, apart)) (omega (arith, past))

pub returns-then-span-last-clause-cause : goal.returns-then-span-last-clause-cause
returns-then-span-last-clause-cause g c =
    let differ = told-apart _ c.requires.same _ _ _ c.eq.ensures c.if-eq.false in
    let past = c.if-span-last.true in
    refused-two c.split.result _ _ _ _
    (enter-cuts c.args.map.now c.place_for-at.result c.args.start c.args.span c.place_for-at.ensures c.requires.runs c.requires.some c.in-Some.before _
    c.in-Some.ensures c.pair_at.ensures differ (omega (arith, past))) c.split.ensures.cause

pub returns-then-span-last-clause-assigned : goal.returns-then-span-last-clause-assigned
returns-then-span-last-clause-assigned g c = c.split.ensures.assigned
