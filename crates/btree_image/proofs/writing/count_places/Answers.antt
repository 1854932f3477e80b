use Rattle.std.proofs.Common.{◌∙◌, ap}
use Rattle.std.specs.FinMap as map
use Rattle.btree_image.proofs.CountLemmas.{found-all}
use Rattle.btree_image.proofs.writing.count_places.Goals as goal

pub returns-then-found-count : goal.returns-then-found-count
returns-then-found-count g c =
    let before = c.loop-id.invariant in
    let all = c.if-found-count.true ∙ c.len-count.ensures.len ∙ ap map.len c.store.ensures.content in
    record { all = found-all c.args.tree.now.nodes c.loop-id.found c.loop-id.end c.loop-id.id all before; last = before.last }
