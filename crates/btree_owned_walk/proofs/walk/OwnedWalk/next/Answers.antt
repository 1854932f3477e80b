use Rattle.btree_owned_walk.proofs.Common.{refl, arith, ◌∙◌, ap, ◌+◌, ◌-◌, node_map}
use Rattle.btree_owned_walk.proofs.LeavingLemmas.{front-stands, next-leaving, next-pair}
use Rattle.btree_owned_walk.proofs.walk.OwnedWalk.next.Goals as goal

pub take_first-item-requires : goal.take_first-item-requires
take_first-item-requires g c =
    front-stands c.self.inside.start.value (node_map c.self.inside.nodes) c.self.inside.passed.count c.self.inside.left c.self.inside.front c.self.inside.back c.self.invariant (omega (arith, c.if-self-eq0.false))

pub invariant_of-self : goal.invariant_of-self
invariant_of-self g c =
    next-leaving c.self.inside.start.value (node_map c.self.inside.nodes) c.self.inside.passed.count c.self.inside.left c.self.inside.front c.self.inside.back c.self.invariant (omega (arith, c.if-self-eq0.false))
    (node_map c.take_first-item.new.tree) c.take_first-item.result.0 c.take_first-item.result.1 _ (c.self.inside.left - 1) refl c.tick.ensures c.take_first-item.ensures.taken

pub returns : goal.returns
returns g c = record {
  yields =
      rw (← c.self.view_is, c.into_pair.ensures)
      (next-pair c.self.inside.start.value (node_map c.self.inside.nodes) c.self.inside.passed.count c.self.inside.left c.self.inside.front c.self.inside.back c.self.invariant (omega (arith, c.if-self-eq0.false))
      (node_map c.take_first-item.new.tree) c.take_first-item.result.0 c.take_first-item.result.1 _ (c.self.inside.left - 1) refl c.tick.ensures c.take_first-item.ensures.taken);
  start = ap (λ v. v.start) c.self.view_is;
  passed = c.tick.ensures ∙ ap (λ v. v.passed + 1) c.self.view_is;
  left = ap (λ v. v.left - 1) c.self.view_is;
  none = tt;
}
