use Rattle.btree_range_map.proofs.Common.{◌∙◌, suc}
use Rattle.btree_range_map.proofs.AbsorbLemmas.{absorbing-done, absorbing-fits, absorbing-last, absorbing-more, absorbing-shorter, absorbing-some, absorbing-trimmed}
use Rattle.btree_range_map.proofs.KeptLemmas.{key-exchanged}
use Rattle.btree_range_map.proofs.PlaceLemmas.{next-at}
use Rattle.btree_range_map.proofs.TrimLemmas.{trim-fits}
use Rattle.btree_range_map.proofs.assign.absorb.Goals as goal

pub unreachable-requires : goal.unreachable-requires
unreachable-requires g c =
    let l = c.loop-last.invariant in
    let next = next-at c.loop-last.map c.loop-last.at l.can.place l.can.item c.next_item_address-next.result c.next_item_address-next.ensures in
    let o = c.in-Absorbed.ensures (suc l.can.place) next in
    absorbing-some c.args.map.now c.loop-last.map c.loop-last.at c.args.start c.args.span c.loop-last.end l c.in-Absorbed.field-0 c.in-Absorbed.last o
    c.take_range.new.map (c.in_default.ensures l.can.place l.can.item.has)

pub loop-last-smaller : goal.loop-last-smaller
loop-last-smaller g c =
    let l = c.loop-last.invariant in
    let next = next-at c.loop-last.map c.loop-last.at l.can.place l.can.item c.next_item_address-next.result c.next_item_address-next.ensures in
    let o = c.in-Absorbed.ensures (suc l.can.place) next in
    absorbing-shorter c.args.map.now c.loop-last.map c.loop-last.at c.args.start c.args.span c.loop-last.end l c.in-Absorbed.field-0 c.in-Some.next c.in-Absorbed.last o
    c.take_range.new.map (c.in-Some.ensures l.can.place l.can.item.has)

pub loop-last-preserved : goal.loop-last-preserved
loop-last-preserved g c =
    let l = c.loop-last.invariant in
    let next = next-at c.loop-last.map c.loop-last.at l.can.place l.can.item c.next_item_address-next.result c.next_item_address-next.ensures in
    let o = c.in-Absorbed.ensures (suc l.can.place) next in
    absorbing-more c.args.map.now c.loop-last.map c.loop-last.at c.args.start c.args.span c.loop-last.end l c.in-Absorbed.field-0 c.in-Some.next c.in-Absorbed.last o
    c.take_range.new.map (c.in-Some.ensures l.can.place l.can.item.has)

pub replace_key_at-requires : goal.replace_key_at-requires
replace_key_at-requires g c =
    let l = c.loop-last.invariant in
    let next = next-at c.loop-last.map c.loop-last.at l.can.place l.can.item c.next_item_address-next.result c.next_item_address-next.ensures in
    let over = c.in-Overlapped.ensures (suc l.can.place) next in
    let rest = over.0 in
    let o = over.1 in
    trim-fits c.loop-last.map (suc l.can.place) _ rest c.in-Overlapped.next o l.can.runs

pub replace_at-requires : goal.replace_at-requires
replace_at-requires g c =
    let l = c.loop-last.invariant in
    let next = next-at c.loop-last.map c.loop-last.at l.can.place l.can.item c.next_item_address-next.result c.next_item_address-next.ensures in
    let over = c.in-Overlapped.ensures (suc l.can.place) next in
    let rest = over.0 in
    let o = over.1 in
    let mid = c.replace_key_at.new.self in
    absorbing-fits c.args.map.now mid c.loop-last.at c.args.start c.args.span c.loop-last.end
    (absorbing-trimmed c.args.map.now c.loop-last.map c.loop-last.at c.args.start c.args.span c.loop-last.end l c.in-Overlapped.next rest o mid (key-exchanged c.loop-last.map c.replace_key_at.new.self c.in-Overlapped.next _ _ _ rest (o.item.item ∙ o.listed) c.replace_key_at.ensures))

pub returns-in-Overlapped : goal.returns-in-Overlapped
returns-in-Overlapped g c =
    let l = c.loop-last.invariant in
    let next = next-at c.loop-last.map c.loop-last.at l.can.place l.can.item c.next_item_address-next.result c.next_item_address-next.ensures in
    let over = c.in-Overlapped.ensures (suc l.can.place) next in
    let rest = over.0 in
    let o = over.1 in
    absorbing-last c.args.map.now c.loop-last.map c.loop-last.at c.args.start c.args.span c.loop-last.end l c.in-Overlapped.next rest o c.replace_key_at.new.self
    (key-exchanged c.loop-last.map c.replace_key_at.new.self c.in-Overlapped.next _ _ _ rest (o.item.item ∙ o.listed) c.replace_key_at.ensures) c.replace_at.new.self c.replace_at.ensures.exchanged

pub replace_at-requires-in-Apart : goal.replace_at-requires-in-Apart
replace_at-requires-in-Apart g c =
    absorbing-fits c.args.map.now c.loop-last.map c.loop-last.at c.args.start c.args.span c.loop-last.end c.loop-last.invariant

pub returns-in-Apart : goal.returns-in-Apart
returns-in-Apart g c =
    let l = c.loop-last.invariant in
    let next = next-at c.loop-last.map c.loop-last.at l.can.place l.can.item c.next_item_address-next.result c.next_item_address-next.ensures in
    absorbing-done c.args.map.now c.loop-last.map c.loop-last.at c.args.start c.args.span c.loop-last.end l (c.in-Apart.ensures (suc l.can.place) next)
    c.replace_at-in-Apart.new.self c.replace_at-in-Apart.ensures.exchanged
