use Rattle.btree_item.proofs.Common.{◌∙◌, sym, arith, rules, common_steps}
use Rattle.btree_item.proofs.KeyLemmas.{AllBelow-from_key, IsNotBelowAt-next}
use Rattle.btree_item.proofs.searches.first_not_below.Goals as goal
use Rattle.btree_item.proofs.searches.first_not_below.Goals.{then-is_after, else-is_after}

pub loop-i-preserved : goal.loop-i-preserved
loop-i-preserved g c = elim c.if-is_after.branch [
  | then-is_after w ↦
      let is_below = sym c.is_after.ensures ∙ w.if-is_after.true in
      let moved = w.place-is in
      record {
        ticks = omega arith;
        reached = omega arith;
        from = omega arith;
        before = rw moved (AllBelow-from_key g.met.Q.Query.cuts _ _ _ _ c.requires.ascends c.key_at.ensures is_below);
        here = λ earlier. absurd (omega arith);
      }
  | else-is_after w ↦
      let not_below = sym c.is_after.ensures ∙ w.if-is_after.false in
      let stays = w.place-is in
      let reached = c.loop-i.invariant.reached in
      record {
        ticks = omega arith;
        reached = omega arith;
        from = omega arith;
        before = rw stays c.loop-i.invariant.before;
        here = rw stays (IsNotBelowAt-next _ _ _ _ _ c.loop-i.invariant.here reached c.key_at.ensures not_below);
      }
]

pub loop-i-init : goal.loop-i-init
loop-i-init g c = search rules steps 200000

pub tick-requires : goal.tick-requires
tick-requires g c = search rules steps 200000

pub key_at-requires : goal.key_at-requires
key_at-requires g c = search rules steps 200000

pub is_after-requires : goal.is_after-requires
is_after-requires g c κs = search rules steps 200000

pub overflow_add-place : goal.overflow_add-place
overflow_add-place g c = search rules steps 200000

pub loop-i-smaller : goal.loop-i-smaller
loop-i-smaller g c = search rules steps 200000

pub returns-clause-place : goal.returns-clause-place
returns-clause-place g c = grind (arith, common_steps) steps 2000000

pub returns-clause-ticks : goal.returns-clause-ticks
returns-clause-ticks g c = omega arith
