use Rattle.std.proofs.Common.{◌≡◌, ◌++◌, ◌∙◌, ◌<◌, ◌-◌, ◌^◌, Some, ap}
use Rattle.std.specs.Prelude.{IfSome}
use Rattle.std.specs.List.{flat_map}
use Rattle.std.proofs.lemmas.Result.{on_ok_weaker}
use Rattle.btree_node.specs.Node.{view_of}
use Rattle.btree_view.specs.View.{items_of, parent_of, size_of}
use Rattle.btree_image.specs.Image.{number, place, word}
use Rattle.btree_spelled.specs.Pairs.{pair_bytes}
use Rattle.btree_image.specs.Written.{AreItemsRead, IsPlaceRead}
use Rattle.btree_image.proofs.NodeLemmas.{leaf-read, leaf-text}
use Rattle.btree_image.proofs.Put.{put-two}
use Rattle.btree_image.proofs.writing.put_leaf.Goals as goal

pub returns-clause-appends : goal.returns-clause-appends
returns-clause-appends g c =
    let spell = pair_bytes g.K.Spelled.spelling g.V.Spelled.spelling in
    let v = view_of c.args.node.now in
    let start = c.args.out.now.items in
    let parent : c.put_number.new.out.items ≡ c.put_word.new.out.items ++ number (parent_of v) = rw c.parent.ensures.value at c.in_ok-put_number.ensures in
    let count : c.put_word-2.new.out.items ≡ c.put_number.new.out.items ++ word (size_of v) = rw c.item_count.ensures.value at c.in_ok-put_word-2.ensures.appends in
    let two = put-two start (word 1) (number (parent_of v)) c.put_word.new.out.items c.put_number.new.out.items c.in_ok-put_word.ensures.appends parent in
    let three = put-two start (word 1 ++ number (parent_of v)) (word (size_of v)) c.put_number.new.out.items c.put_word-2.new.out.items two count in
    on_ok_weaker {P = c.put_items.new.out.items ≡ c.put_word-2.new.out.items ++ flat_map spell (items_of v)} {Q = c.put_items.new.out.items ≡ start ++ place spell (Some v)} c.put_items.result
    (λ items. put-two start (word 1 ++ number (parent_of v) ++ word (size_of v)) (flat_map spell (items_of v)) c.put_word-2.new.out.items c.put_items.new.out.items three items ∙ ap (λ t. start ++ t) (leaf-text spell v c.requires.kind))
    c.put_items.ensures.appends

pub returns-clause-is_read : goal.returns-clause-is_read
returns-clause-is_read g c =
    let v = view_of c.args.node.now in
    let bound : IfSome (parent_of v) (λ n. n < 2 ^ 64 - 1) = rw c.parent.ensures.value at c.parent.ensures.bound in
    on_ok_weaker {P = AreItemsRead g.K.Spelled.spelling g.V.Spelled.spelling g.K.Spelled.read g.V.Spelled.read (items_of v)} {Q = IsPlaceRead g.K.Spelled.spelling g.V.Spelled.spelling g.K.Spelled.read g.V.Spelled.read (Some v)} c.put_items.result
    (λ each. leaf-read g.K.Spelled.spelling g.V.Spelled.spelling g.K.Spelled.read g.V.Spelled.read v c.requires.kind c.requires.sized bound each)
    c.put_items.ensures.are_read
