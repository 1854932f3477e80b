use Rattle.std.proofs.Common.{map as each}
use Rattle.std.proofs.lemmas.Grind.{common_steps}
use Rattle.std.proofs.Common.{◌≡◌, ◌∙◌, ◌+◌, ◌%◌, ◌^◌, sym, ap, set, slice_get, length, arith}
use Rattle.btree_laws.specs.TreeState.{pairs_of}
use Rattle.test_map.specs.Raised.{greater_by}
use Rattle.test_map.proofs.ChangedLemmas.{changed, changed-all, changed-step}
use Rattle.test_map.proofs.lending.add_one.Goals as goal

pub loop-pairs-preserved : goal.loop-pairs-preserved
loop-pairs-preserved g c =
    let it = c.loop-pairs.pairs in
    let held = c.loop-pairs.invariant in
    let k = c.next_pair-value.result.0.now in
    let was = c.next_pair-value.result.1.now in
    let w = (was + 1) % 2 ^ 64 in
    let x = c.next_pair-value.ensures.writes w in
    record {
      same_map = held.same_map;
      back = held.back;
      front = omega (arith, held.back, c.len.ensures.value, c.loop-pairs-test.true);
      pairs =
          x.writes.pairs
          ∙ ap (λ l. set l it.front (k, w)) held.pairs
          ∙ changed-step (greater_by 1) it.front (pairs_of c.args.map.now) (k, was)
          (ap (λ l. slice_get l it.front) (sym held.pairs) ∙ c.next_pair-value.ensures.pair);
      addresses = x.writes.addresses ∙ held.addresses;
      uncounted = x.writes.exchanged.exchanged.uncounted ∙ held.uncounted;
    }

pub returns-clause-pairs : goal.returns-clause-pairs
returns-clause-pairs g c =
    let it = c.loop-pairs.pairs in
    let held = c.loop-pairs.invariant in
    let all : it.front ≡ length (pairs_of c.args.map.now) = omega (arith, held.front, held.back, c.len.ensures.value, c.loop-pairs-test.false) in
    let pairs : pairs_of it.map.now ≡ each (greater_by 1) (pairs_of c.args.map.now) =
    held.pairs ∙ ap (λ n. changed (greater_by 1) n (pairs_of c.args.map.now)) all ∙ changed-all (greater_by 1) (pairs_of c.args.map.now) in
    grind (arith, common_steps, pairs) steps 300000
