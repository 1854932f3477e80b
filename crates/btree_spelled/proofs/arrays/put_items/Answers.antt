use Rattle.std.proofs.Common.{◌≡◌, ◌∙◌, ◌++◌, ℕ, ◌+◌, List, [], ◌∷◌, take, sym, ap, arith}
use Rattle.std.proofs.lemmas.List.{append-nil, flat_map_more, take_more}
use Rattle.btree_spelled.specs.Arrays.{items_bytes}
use Rattle.btree_spelled.specs.ArrayLaws.{again-more, read-start}
use Rattle.btree_spelled.proofs.arrays.put_items.Goals as goal

pub loop-item-init : goal.loop-item-init
loop-item-init g c = (sym (append-nil _), λ rest. read-start g.T.Spelled.spelling g.T.Spelled.read rest)

pub loop-item-preserved : goal.loop-item-preserved
loop-item-preserved g c =
    let before = c.loop-item.invariant in
    let front = take c.loop-item.item-index c.args.items.now in
    let more : take (c.loop-item.item-index + 1) c.args.items.now ≡ front ++ c.item-item.result ∷ [] =
    rw c.item-item.is (take_more c.args.items.now c.loop-item.item-index c.item-item.result (omega arith)) in
    let written : c.put.new.out.items ≡ c.args.out.now.items ++ items_bytes g.T.Spelled.spelling (front ++ c.item-item.result ∷ []) =
    c.in_ok-put.ensures.appends ∙ ap (λ (t : List ℕ). t ++ g.T.Spelled.spelling c.item-item.result) before.0 ∙ flat_map_more g.T.Spelled.spelling c.args.out.now.items front c.item-item.result in
    rw more (written, again-more g.T.Spelled.spelling g.T.Spelled.read c.loop-item.item-index front c.item-item.result before.1 c.in_ok-put.ensures.reads_back)
