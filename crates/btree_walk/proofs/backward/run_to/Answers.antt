use Rattle.btree_walk.proofs.Common.{◌≡◌, ◌+◌, ◌-◌, suc, take, subst, arith}
use Rattle.btree_walk.proofs.RowLemmas.{yields-less}
use Rattle.btree_walk.proofs.backward.run_to.Goals as goal

pub loop-preserved : goal.loop-preserved
loop-preserved g c =
    let items = c.in-Some.leaf.now.items in
    let count = c.item_count-end.result in
    let counted = c.item_count-end.ensures.value in
    let low = c.loop-test.true in
    let from = c.loop.auto.counter in
    let n = c.args.kept + count - (c.loop.counter + 1) in
    let more : c.args.kept + count - c.loop.counter ≡ suc n = omega arith in
    let left : c.loop.run ≡ take (c.args.kept + count - c.loop.counter) items = rw c.in-Some.is at c.loop.invariant.left in
    record {
      left = rw c.in-Some.is (yields-less items n c.loop.run c.next_back.new.self c.next_back.result (subst (λ m. c.loop.run ≡ take m items) more left) (omega arith) c.next_back.ensures.steps);
      low = omega arith;
    }

pub item_count-end-requires : goal.item_count-end-requires
item_count-end-requires g c = assumption
