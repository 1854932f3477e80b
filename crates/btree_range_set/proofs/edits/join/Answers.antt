use Rattle.btree_range_set.proofs.Common.{refl}
use Rattle.btree_range_set.proofs.JoinLemmas.{joining-done, joining-fits, joining-more}
use Rattle.btree_range_set.proofs.edits.join.Goals as goal

pub loop-map-preserved : goal.loop-map-preserved
loop-map-preserved g c =
    let l = c.loop-map.invariant in
    joining-more c.args.map.now c.loop-map.map c.take_range.new.map c.loop-map.at c.args.start c.args.end l c.in-Some.next
    (c.loop-map-test.ensures.touches refl l.can.place l.can.item.has) (c.in-Some.ensures l.can.place l.can.item.has)

pub replace_at-requires : goal.replace_at-requires
replace_at-requires g c = joining-fits c.args.map.now c.loop-map.map c.loop-map.map c.loop-map.at c.args.start c.args.end c.loop-map.invariant

pub returns : goal.returns
returns g c =
    let l = c.loop-map.invariant in
    joining-done c.args.map.now c.loop-map.map c.replace_at.new.self c.loop-map.at c.args.start c.args.end l
    _ c.pair_at.ensures (c.loop-map-test.ensures.apart refl l.can.place l.can.item.has)
    (rw c.max-last.ensures at c.replace_at.ensures.exchanged)
