use Rattle.btree_walk.proofs.Common.{◌≡◌, drop}
use Rattle.btree_walk.proofs.RowLemmas.{yields-more}
use Rattle.btree_walk.proofs.iter.run_from.Goals as goal

pub loop-preserved : goal.loop-preserved
loop-preserved g c =
    let items = c.in-Some.leaf.now.items in
    let left : c.loop.run ≡ drop c.loop.counter items = rw c.in-Some.is at c.loop.invariant in
    rw c.in-Some.is (yields-more items c.loop.counter c.loop.run c.next.new.self c.next.result left c.next.ensures.steps)
