use Rattle.btree_map.proofs.Common.{◌≡◌, ◌≤◌, ◌∙◌, ap, drop, length, slice_get, subst, sym, true, item_addresses_of, pairs_of, entry_front, index-within}
use Rattle.std.specs.Map.Calls.{CallableOnEachPair}
use Rattle.btree_map.specs.Drain.{Yields}
use Rattle.btree_map.proofs.drain.steps.seek_from.Goals as goal

pub returns : goal.returns
returns g c =
    let step = g.P.PairTest.step in
    let test = c.args.test.now in
    let after = c.seek.new.test in
    let found = c.seek.result.2 in
    let start = c.at-entries.result in
    let end = c.seek.new.entries in
    let now = end.map.now in
    let final = c.map-1.given.1 (sym (c.seek.ensures.same_map ∙ c.at-entries.ensures.same_map)) in
    let from = subst (λ n. Yields step true test after start.map.now n now (entry_front end) found) c.at-entries.ensures.front c.seek.ensures.yields in
    let yields = subst (λ s. Yields step true test after s c.args.front now (entry_front end) found) c.at-entries.ensures.unchanged from in
    let stands : c.seek.result.0 ≡ slice_get (item_addresses_of now) c.seek.result.1 =
    c.seek.ensures.first ∙ end.first_stands ∙ ap (slice_get (item_addresses_of now)) (sym c.seek.ensures.front) in
    let within = subst (λ n. n ≤ length (item_addresses_of now)) (sym c.seek.ensures.front) (index-within (item_addresses_of now) end.first) in
    let callable = subst (λ n. CallableOnEachPair step g.P.PairTest.accepts after (drop n (pairs_of now))) (sym c.seek.ensures.front) c.seek.ensures.callable in
    record {
      stands = subst (λ now. c.seek.result.0 ≡ slice_get (item_addresses_of now) c.seek.result.1) (sym final) stands;
      within = subst (λ now. c.seek.result.1 ≤ length (item_addresses_of now)) (sym final) within;
      callable = subst (λ now. CallableOnEachPair step g.P.PairTest.accepts after (drop c.seek.result.1 (pairs_of now))) (sym final) callable;
      yields = subst (λ now. Yields step true test after c.args.map.now c.args.front now c.seek.result.1 found) (sym final)
          (subst (λ place. Yields step true test after c.args.map.now c.args.front now place found) (sym c.seek.ensures.front) yields);
    }
