use Rattle.std.proofs.Common.{map as each}
use Rattle.std.proofs.lemmas.Grind.{common_steps}
use Rattle.std.proofs.Common.{◌≡◌, ◌∙◌, ◌+◌, ◌%◌, ◌^◌, sym, ap, set, slice_get, length, arith}
use Rattle.btree_laws.specs.TreeState.{pairs_of}
use Rattle.test_map.specs.Raised.{greater_by}
use Rattle.test_map.proofs.ChangedLemmas.{changed, changed-all, changed-step}
use Rattle.test_map.proofs.lending.add_one_to_each.Goals as goal

pub loop-values-preserved : goal.loop-values-preserved
loop-values-preserved c =
    let it = c.loop-values.values in
    let held = c.loop-values.invariant in
    let was = c.next_value-value.result.now in
    let w = (was + 1) % 2 ^ 64 in
    let x = c.next_value-value.ensures.writes w in
    record {
      same_map = held.same_map;
      back = held.back;
      front = omega (arith, held.back, c.len.ensures.value, c.loop-values-test.true);
      pairs =
          x.writes.pairs
          ∙ ap (λ l. set l it.front (x.key, w)) held.pairs
          ∙ changed-step (greater_by 1) it.front (pairs_of c.args.map.now) (x.key, was)
          (ap (λ l. slice_get l it.front) (sym held.pairs) ∙ x.writes.item);
    }

pub returns : goal.returns
returns c =
    let it = c.loop-values.values in
    let held = c.loop-values.invariant in
    let all : it.front ≡ length (pairs_of c.args.map.now) = omega (arith, held.front, held.back, c.len.ensures.value, c.loop-values-test.false) in
    let pairs : pairs_of it.map.now ≡ each (greater_by 1) (pairs_of c.args.map.now) =
    held.pairs ∙ ap (λ n. changed (greater_by 1) n (pairs_of c.args.map.now)) all ∙ changed-all (greater_by 1) (pairs_of c.args.map.now) in
    record { pairs = grind (arith, common_steps, pairs) steps 300000 }
