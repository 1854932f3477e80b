use Rattle.btree_range_map.proofs.Common.{pairs_of, JoinsNone}
use Rattle.btree_range_map.proofs.KeptLemmas.{refused-one}
use Rattle.btree_range_map.proofs.PlaceLemmas.{normal-place, on-error}
use Rattle.btree_range_map.proofs.PutLemmas.{put-absorbed, put-absorbs, put-done, put-none, put-none-over}
use Rattle.btree_range_map.proofs.assign.put.Goals as goal

pub absorb-requires-clause-can : goal.absorb-requires-clause-can
absorb-requires-clause-can g c =
    let s = c.args.map.now in
    let here = c.requires.can.here in
    let next = normal-place s c.args.at here.place here.has c.normalize-next.result c.normalize-next.ensures in
    put-absorbs s c.args.at c.args.start c.args.span c.requires.can c.in-Absorbed.next c.in-Absorbed.end (c.in-Absorbed.ensures here.place next)

pub returns-in-Absorbed-clause-assigned : goal.returns-in-Absorbed-clause-assigned
returns-in-Absorbed-clause-assigned g c =
    let s = c.args.map.now in
    let here = c.requires.can.here in
    let next = normal-place s c.args.at here.place here.has c.normalize-next.result c.normalize-next.ensures in
    put-absorbed s c.args.at c.args.start c.args.span c.requires.can c.in-Absorbed.next c.in-Absorbed.end (c.in-Absorbed.ensures here.place next) c.absorb.new.map c.absorb.ensures

pub returns-in-Overlapped-clause-joins_none : goal.returns-in-Overlapped-clause-joins_none
returns-in-Overlapped-clause-joins_none g c =
    let s = c.args.map.now in
    let here = c.requires.can.here in
    let next = normal-place s c.args.at here.place here.has c.normalize-next.result c.normalize-next.ensures in
    let over = c.in-Overlapped.ensures here.place next in
    on-error c.put_before.result (JoinsNone (pairs_of s) c.args.start c.args.span.end c.args.span.value)
    (put-none-over s c.args.at c.args.start c.args.span c.requires.can c.in-Overlapped.next over.0 over.1)

pub returns-in-Ok-clause-assigned : goal.returns-in-Ok-clause-assigned
returns-in-Ok-clause-assigned g c =
    let s = c.args.map.now in
    let here = c.requires.can.here in
    let next = normal-place s c.args.at here.place here.has c.normalize-next.result c.normalize-next.ensures in
    put-done s c.args.at c.args.start c.args.span c.requires.can (c.in-Apart.ensures here.place next) c.insert_at.new.self c.in-Ok._at (rw c.new.ensures at c.in-Ok.ensures.inserted)

pub returns-in-Err-clause-joins_none : goal.returns-in-Err-clause-joins_none
returns-in-Err-clause-joins_none g c =
    let s = c.args.map.now in
    let here = c.requires.can.here in
    let next = normal-place s c.args.at here.place here.has c.normalize-next.result c.normalize-next.ensures in
    put-none s c.args.at c.args.start c.args.span c.requires.can (c.in-Apart.ensures here.place next)

pub returns-in-Err-clause-cause : goal.returns-in-Err-clause-cause
returns-in-Err-clause-cause g c = rw c.refused_by_node.ensures.cause (refused-one c.args.map.now c.insert_at.new.self c.args.at _ _ c.in-Err.ensures.refused)

pub put_before-requires-clause-next : goal.put_before-requires-clause-next
put_before-requires-clause-next g c = λ place has.
    c.in-Overlapped.ensures place (normal-place c.args.map.now c.args.at place has c.normalize-next.result c.normalize-next.ensures)
