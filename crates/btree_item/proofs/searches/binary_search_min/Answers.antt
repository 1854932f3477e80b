use Rattle.btree_item.proofs.Common.{◌∙◌, arith, rules, common_steps, length-map}
use Rattle.btree_item.proofs.KeyLemmas.{Less-from_is_lt, is_lt-from_partial}
use Rattle.btree_item.proofs.MinLemmas.{AllAbove-from_key, IsAtMostBefore-from_key, IsAtMostBefore-none, AllAbove-end}
use Rattle.btree_item.proofs.searches.binary_search_min.Goals as goal

pub loop-low-preserved-then-lt : goal.loop-low-preserved-then-lt
loop-low-preserved-then-lt g c =
    let is_above = is_lt-from_partial g.met.T.Key.Ord.matches_partial_cmp _ _ _ c.lt.ensures ∙ c.if-lt.true in
    record {
      ordered = omega arith;
      within = omega arith;
      at_most = c.loop-low.invariant.at_most;
      above = AllAbove-from_key g.met.T.Key.Ord.total _ _ _ _ c.requires c.key_at.ensures (Less-from_is_lt _ is_above);
    }

pub len-high-requires : goal.len-high-requires
len-high-requires g c = search rules steps 200000

pub overflow_sub-middle : goal.overflow_sub-middle
overflow_sub-middle g c = search rules steps 200000

pub overflow_add-middle : goal.overflow_add-middle
overflow_add-middle g c = search rules steps 200000

pub key_at-requires : goal.key_at-requires
key_at-requires g c = search rules steps 200000

pub lt-requires : goal.lt-requires
lt-requires g c κs = search rules steps 200000

pub loop-low-smaller-then-lt : goal.loop-low-smaller-then-lt
loop-low-smaller-then-lt g c = search rules steps 200000

pub overflow_add-low : goal.overflow_add-low
overflow_add-low g c = search rules steps 200000

pub loop-low-smaller : goal.loop-low-smaller
loop-low-smaller g c = search rules steps 200000

pub loop-low-preserved : goal.loop-low-preserved
loop-low-preserved g c =
    let not_above = is_lt-from_partial g.met.T.Key.Ord.matches_partial_cmp _ _ _ c.lt.ensures ∙ c.if-lt.false in
    record {
      ordered = omega arith;
      within = omega arith;
      at_most = IsAtMostBefore-from_key g.met.T.Key.Ord.total _ _ _ _ c.key_at.ensures not_above;
      above = c.loop-low.invariant.above;
    }

pub overflow_sub-result : goal.overflow_sub-result
overflow_sub-result g c = search rules steps 200000

pub returns-then-low-eq0-clause-last : goal.returns-then-low-eq0-clause-last
returns-then-low-eq0-clause-last g c = search rules steps 200000

pub returns-then-low-eq0-clause-none : goal.returns-then-low-eq0-clause-none
returns-then-low-eq0-clause-none g c = search rules steps 2000000

pub returns-else-low-eq0-clause-last : goal.returns-else-low-eq0-clause-last
returns-else-low-eq0-clause-last g c = grind (arith, common_steps) steps 2000000

pub returns-else-low-eq0-clause-none : goal.returns-else-low-eq0-clause-none
returns-else-low-eq0-clause-none g c = search rules steps 200000

pub loop-low-init : goal.loop-low-init
loop-low-init g c =
    let same = length-map c.args.slots.now g.T.Keyed.key_of in
    record { ordered = omega arith; within = omega arith; at_most = IsAtMostBefore-none _ _; above = AllAbove-end _ _ _ (omega arith) }
