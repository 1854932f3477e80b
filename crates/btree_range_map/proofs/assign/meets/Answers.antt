use Rattle.btree_range_map.proofs.Common.{◌∙◌, Option, subst, sym, arith, Address, IsItemAt}
use Rattle.btree_range_map.proofs.PlaceLemmas.{past-apart, told-apart, told-same}
use Rattle.btree_range_map.proofs.assign.meets.Goals as goal

pub returns-then-first-end : goal.returns-then-first-end
returns-then-first-end g c place is =
    let item = (subst (λ (o : Option Address). IsItemAt c.args.map.now place o) c.in-Some.is is).here in
    let low = c.if-first-end.true in
    let end = c.max.ensures in
    let same = told-same _ c.requires.same _ _ _ c.eq.ensures c.if-eq.true in
    record {
      range = (c.pair_at.result.0.now, c.pair_at.result.1.now);
      item = item;
      listed = sym item.item ∙ c.pair_at.ensures;
      within = omega (arith, end);
      wider = omega (arith, end);
      joins = λ lt. (same, omega (arith, low), omega (arith, end, lt));
    }

pub returns-then-next-end : goal.returns-then-next-end
returns-then-next-end g c place is =
    let item = (subst (λ (o : Option Address). IsItemAt c.args.map.now place o) c.in-Some.is is).here in
    let within = c.if-next-end.true in
    record {
      range = (c.pair_at.result.0.now, c.pair_at.result.1.now);
      item = item;
      listed = sym item.item ∙ c.pair_at.ensures;
      within = omega (arith, within);
      wider = omega arith;
      joins = λ lt. absurd (omega (arith, lt));
    }

pub returns : goal.returns
returns g c place is =
    let item = (subst (λ (o : Option Address). IsItemAt c.args.map.now place o) c.in-Some.is is).here in
    let starts = c.if-end-first.false in
    let past = c.if-next-end.false in (
      c.pair_at.result.1.now,
      record {
        first = c.pair_at.result.0.now;
        item = item;
        listed = sym item.item ∙ c.pair_at.ensures;
        starts = omega (arith, starts);
        past = omega (arith, past);
        differ = told-apart _ c.requires.same _ _ _ c.eq.ensures c.if-eq.false;
      },
    )

pub returns-then-eq : goal.returns-then-eq
returns-then-eq g c place is =
    let item = (subst (λ (o : Option Address). IsItemAt c.args.map.now place o) c.in-Some.is is).here in
    let past = c.if-first-end.false in
    past-apart _ place (record { end = c.args.end; value = c.args.value.now }) (c.pair_at.result.0.now, c.pair_at.result.1.now) (sym item.item ∙ c.pair_at.ensures) (omega (arith, past))
