use Rattle.std.proofs.Common.{◌≡◌, ◌++◌, ◌∙◌, ◌<◌, ◌-◌, ◌^◌, Some, ap, arith}
use Rattle.std.specs.Prelude.{IfSome}
use Rattle.std.specs.List.{flat_map}
use Rattle.std.proofs.lemmas.Result.{on_ok_weaker}
use Rattle.btree_node.specs.Node.{view_of}
use Rattle.btree_view.specs.View.{branches_of, parent_of, size_of}
use Rattle.btree_image.specs.Image.{branch, number, place, word}
use Rattle.btree_spelled.specs.Pairs.{pair_bytes}
use Rattle.btree_image.specs.Written.{AreBranchesRead, IsPlaceRead}
use Rattle.btree_image.proofs.NodeLemmas.{internal-read, internal-text, some-child}
use Rattle.btree_image.proofs.Put.{put-two}
use Rattle.btree_image.proofs.writing.put_internal.Goals as goal

pub child_id-requires : goal.child_id-requires
child_id-requires g c = let fits = c.well_formed in (omega arith, some-child (view_of c.args.node.now) c.requires.kind)

pub returns-clause-appends : goal.returns-clause-appends
returns-clause-appends g c =
    let spell = pair_bytes g.K.Spelled.spelling g.V.Spelled.spelling in
    let v = view_of c.args.node.now in
    let start = c.args.out.now.items in
    let first = c.child_id.result in
    let parent : c.put_number.new.out.items ≡ c.put_word.new.out.items ++ number (parent_of v) = rw c.parent.ensures.value at c.in_ok-put_number.ensures in
    let count : c.put_word-2.new.out.items ≡ c.put_number.new.out.items ++ word (size_of v) = rw c.item_count.ensures.value at c.in_ok-put_word-2.ensures.appends in
    let two = put-two start (word 2) (number (parent_of v)) c.put_word.new.out.items c.put_number.new.out.items c.in_ok-put_word.ensures.appends parent in
    let three = put-two start (word 2 ++ number (parent_of v)) (word (size_of v)) c.put_number.new.out.items c.put_word-2.new.out.items two count in
    let four = put-two start (word 2 ++ number (parent_of v) ++ word (size_of v)) (word first) c.put_word-2.new.out.items c.put_word-3.new.out.items three c.in_ok-put_word-3.ensures.appends in
    on_ok_weaker {P = c.put_branches.new.out.items ≡ c.put_word-3.new.out.items ++ flat_map (branch spell) (branches_of v)} {Q = c.put_branches.new.out.items ≡ start ++ place spell (Some v)} c.put_branches.result
    (λ branches.
    put-two start (word 2 ++ number (parent_of v) ++ word (size_of v) ++ word first) (flat_map (branch spell) (branches_of v)) c.put_word-3.new.out.items c.put_branches.new.out.items four branches
    ∙ ap (λ t. start ++ t) (internal-text spell v first c.requires.kind c.child_id.ensures))
    c.put_branches.ensures.appends

pub returns-clause-is_read : goal.returns-clause-is_read
returns-clause-is_read g c =
    let v = view_of c.args.node.now in
    let bound : IfSome (parent_of v) (λ n. n < 2 ^ 64 - 1) = rw c.parent.ensures.value at c.parent.ensures.bound in
    on_ok_weaker {P = AreBranchesRead g.K.Spelled.spelling g.V.Spelled.spelling g.K.Spelled.read g.V.Spelled.read (branches_of v)} {Q = IsPlaceRead g.K.Spelled.spelling g.V.Spelled.spelling g.K.Spelled.read g.V.Spelled.read (Some v)} c.put_branches.result
    (λ each. internal-read g.K.Spelled.spelling g.V.Spelled.spelling g.K.Spelled.read g.V.Spelled.read v c.child_id.result c.requires.kind c.child_id.ensures c.requires.sized bound c.put_word-3.ensures.is_read each)
    c.put_branches.ensures.are_read
