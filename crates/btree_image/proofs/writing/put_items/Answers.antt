use Rattle.std.proofs.Common.{arith}
use Rattle.btree_node.specs.Node.{view_of}
use Rattle.btree_view.specs.View.{items_of}
use Rattle.btree_spelled.specs.Pairs.{pair_bytes}
use Rattle.btree_image.specs.Reading.{item_at}
use Rattle.btree_image.proofs.Put.{drop-get, get-none, put-all, put-one}
use Rattle.btree_image.proofs.writing.put_items.Goals as goal

pub unreachable-requires : goal.unreachable-requires
unreachable-requires g c =
    get-none (items_of (view_of c.args.node.now)) c.loop-i.i (omega (arith, c.loop-i-test.true, c.item_count-i-end.ensures.value)) c.in_default.ensures.item

pub loop-i-preserved : goal.loop-i-preserved
loop-i-preserved g c =
    let items = items_of (view_of c.args.node.now) in
    let at = c.in-Some.ensures.item in
    put-one (item_at g.K.Spelled.read g.V.Spelled.read) (pair_bytes g.K.Spelled.spelling g.V.Spelled.spelling) items c.args.out.now.items c.loop-i.out.items c.loop-i.i c.in-Some.item.now c.put_item.new.out.items
    (drop-get items c.loop-i.i c.in-Some.item.now at) at c.in_ok-put_item.ensures.appends c.in_ok-put_item.ensures.is_read c.loop-i.invariant

pub returns-clause-appends : goal.returns-clause-appends
returns-clause-appends g c =
    (put-all (item_at g.K.Spelled.read g.V.Spelled.read) (pair_bytes g.K.Spelled.spelling g.V.Spelled.spelling) (items_of (view_of c.args.node.now)) c.args.out.now.items c.loop-i.out.items c.loop-i.i (omega (arith, c.loop-i-test.false, c.item_count-i-end.ensures.value)) c.loop-i.invariant).0

pub returns-clause-are_read : goal.returns-clause-are_read
returns-clause-are_read g c =
    (put-all (item_at g.K.Spelled.read g.V.Spelled.read) (pair_bytes g.K.Spelled.spelling g.V.Spelled.spelling) (items_of (view_of c.args.node.now)) c.args.out.now.items c.loop-i.out.items c.loop-i.i (omega (arith, c.loop-i-test.false, c.item_count-i-end.ensures.value)) c.loop-i.invariant).1
