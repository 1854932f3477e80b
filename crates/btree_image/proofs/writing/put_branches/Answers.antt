use Rattle.std.proofs.Common.{◌+◌, drop, arith}
use Rattle.btree_node.specs.Node.{view_of}
use Rattle.btree_view.specs.View.{branches_of}
use Rattle.btree_image.specs.Image.{branch, word}
use Rattle.btree_spelled.specs.Pairs.{pair_bytes}
use Rattle.btree_image.specs.Reading.{branch_at}
use Rattle.btree_image.proofs.Again.{branch-again}
use Rattle.btree_image.proofs.NodeLemmas.{size-branches}
use Rattle.btree_image.proofs.Put.{drop-none, get-drop, put-all, put-one, put-two}
use Rattle.btree_image.proofs.writing.put_branches.Goals as goal

pub unreachable-requires : goal.unreachable-requires
unreachable-requires g c =
    let all = size-branches (view_of c.args.node.now) c.requires in
    drop-none (branches_of (view_of c.args.node.now)) c.loop-i.i (omega (arith, c.loop-i-test.true, c.item_count-i-end.ensures.value, all)) c.in_default.ensures.first

pub loop-i-preserved : goal.loop-i-preserved
loop-i-preserved g c =
    let spell = pair_bytes g.K.Spelled.spelling g.V.Spelled.spelling in
    let branches = branches_of (view_of c.args.node.now) in
    let item = c.in-Some.item.now in
    let child = c.in-Some.child in
    let begins = c.in-Some.ensures.first in
    let text = put-two c.loop-i.out.items (spell item) (word child) c.put_item.new.out.items c.put_word.new.out.items c.in_ok-put_item.ensures.appends c.in_ok-put_word.ensures.appends in
    let read = branch-again g.K.Spelled.spelling g.V.Spelled.spelling g.K.Spelled.read g.V.Spelled.read item child c.in_ok-put_item.ensures.is_read c.put_word.ensures.is_read in
    put-one (branch_at g.K.Spelled.read g.V.Spelled.read) (branch spell) branches c.args.out.now.items c.loop-i.out.items c.loop-i.i (item, child) c.put_word.new.out.items
    begins (get-drop branches c.loop-i.i (item, child) (drop (c.loop-i.i + 1) branches) begins) text read c.loop-i.invariant

pub returns-clause-appends : goal.returns-clause-appends
returns-clause-appends g c =
    let all = size-branches (view_of c.args.node.now) c.requires in
    (put-all (branch_at g.K.Spelled.read g.V.Spelled.read) (branch (pair_bytes g.K.Spelled.spelling g.V.Spelled.spelling)) (branches_of (view_of c.args.node.now)) c.args.out.now.items c.loop-i.out.items c.loop-i.i (omega (arith, c.loop-i-test.false, c.item_count-i-end.ensures.value, all)) c.loop-i.invariant).0

pub returns-clause-are_read : goal.returns-clause-are_read
returns-clause-are_read g c =
    let all = size-branches (view_of c.args.node.now) c.requires in
    (put-all (branch_at g.K.Spelled.read g.V.Spelled.read) (branch (pair_bytes g.K.Spelled.spelling g.V.Spelled.spelling)) (branches_of (view_of c.args.node.now)) c.args.out.now.items c.loop-i.out.items c.loop-i.i (omega (arith, c.loop-i-test.false, c.item_count-i-end.ensures.value, all)) c.loop-i.invariant).1
