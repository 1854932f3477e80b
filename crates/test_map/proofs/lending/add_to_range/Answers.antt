use Rattle.std.proofs.Common.{map as each}
use Rattle.std.proofs.lemmas.Grind.{common_steps}
use Rattle.std.proofs.Common.{◌≡◌, ◌∙◌, ◌+◌, ◌-◌, ◌%◌, ◌^◌, refl, sym, ap, arith}
use Rattle.std.specs.BTreeMap.Range.{range_contains}
use Rattle.btree_laws.specs.TreeAddresses.{item_addresses_of}
use Rattle.btree_laws.specs.TreeState.{pairs_of}
use Rattle.btree_walk.specs.Bounds.{bound_key, pairs_between}
use Rattle.btree_map.specs.RangeCursor.{range_back, range_front}
use Rattle.test_map.specs.Raised.{greater_between, greater_by}
use Rattle.test_map.proofs.BetweenLemmas.{finished, finished-all, finished-passing, finished-step, none-places, some-places}
use Rattle.test_map.proofs.lending.add_to_range.Goals as goal

pub loop-pairs-init : goal.loop-pairs-init
loop-pairs-init g c =
    let it = c.range_mut-pairs.result in
    let same = c.range_mut-pairs.ensures.unchanged in
    let range = c.args.range in
    let cmp = g.K.Ord.cmp in
    let left = ap (λ t. pairs_between cmp range (pairs_of t)) same ∙ sym c.range_mut-pairs.ensures.between in
    record {
      same_map = refl;
      pairs =
          finished-passing (greater_by c.args.more) (λ x. range_contains cmp (bound_key range.0) (bound_key range.1) x.0)
          (range_front it) (range_back it - range_front it) (pairs_of it.map.now) left
          ∙ ap (λ t. each (greater_between cmp range c.args.more) (pairs_of t)) same;
      addresses = ap item_addresses_of same;
      uncounted = ap (λ t. t.kept) same;
    }

pub loop-pairs-preserved : goal.loop-pairs-preserved
loop-pairs-preserved g c =
    let it = c.loop-pairs.pairs in
    let held = c.loop-pairs.invariant in
    let k = c.next_pair-value.result.0.now in
    let was = c.next_pair-value.result.1.now in
    let w = (was + c.args.more) % 2 ^ 64 in
    let x = c.next_pair-value.ensures.writes w in
    let f = greater_by c.args.more in
    let some = some-places (range_front it) (range_back it) c.is_empty.result c.is_empty.ensures.places c.loop-pairs-test.true in
    record {
      same_map = held.same_map;
      pairs =
          (λ i. finished f (x.front i) (x.back i) (x.writes.pairs i))
          ∙ finished-step f (range_front it) (range_back it) (pairs_of it.map.now) (k, was) some c.next_pair-value.ensures.pair
          ∙ held.pairs;
      addresses = x.writes.addresses ∙ held.addresses;
      uncounted = x.writes.exchanged.exchanged.uncounted ∙ held.uncounted;
    }

pub returns-clause-all : goal.returns-clause-all
returns-clause-all g c =
    let it = c.loop-pairs.pairs in
    let held = c.loop-pairs.invariant in
    let none = none-places (range_front it) (range_back it) c.is_empty.result c.is_empty.ensures.places c.loop-pairs-test.false in
    let pairs : pairs_of it.map.now ≡ each (greater_between g.K.Ord.cmp c.args.range c.args.more) (pairs_of c.args.map.now) =
    sym (finished-all (greater_by c.args.more) (range_front it) (range_back it) (pairs_of it.map.now) none) ∙ held.pairs in
    grind (arith, common_steps, pairs) steps 300000
