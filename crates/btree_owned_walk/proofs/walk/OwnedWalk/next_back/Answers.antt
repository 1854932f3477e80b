use Rattle.btree_owned_walk.proofs.Common.{refl, ap, arith, ◌-◌, node_map}
use Rattle.btree_owned_walk.proofs.LeavingLemmas.{back-leaving, back-pair, back-stands}
use Rattle.btree_owned_walk.proofs.walk.OwnedWalk.next_back.Goals as goal

pub take_last-item-requires : goal.take_last-item-requires
take_last-item-requires g c =
    back-stands c.self.inside.start.value (node_map c.self.inside.nodes) c.self.inside.passed.count c.self.inside.left c.self.inside.front c.self.inside.back c.self.invariant (omega (arith, c.if-self-eq0.false))

pub invariant_of-self : goal.invariant_of-self
invariant_of-self g c =
    back-leaving c.self.inside.start.value (node_map c.self.inside.nodes) c.self.inside.passed.count c.self.inside.left c.self.inside.front c.self.inside.back c.self.invariant (omega (arith, c.if-self-eq0.false))
    (node_map c.take_last-item.new.tree) c.take_last-item.result.0 c.take_last-item.result.1 c.self.inside.passed.count (c.self.inside.left - 1) refl c.take_last-item.ensures.taken

pub returns : goal.returns
returns g c = record {
  yields =
      rw (← c.self.view_is, c.into_pair.ensures)
      (back-pair c.self.inside.start.value (node_map c.self.inside.nodes) c.self.inside.passed.count c.self.inside.left c.self.inside.front c.self.inside.back c.self.invariant (omega (arith, c.if-self-eq0.false))
      (node_map c.take_last-item.new.tree) c.take_last-item.result.0 c.take_last-item.result.1 c.self.inside.passed.count (c.self.inside.left - 1) refl c.take_last-item.ensures.taken);
  start = ap (λ v. v.start) c.self.view_is;
  passed = ap (λ v. v.passed) c.self.view_is;
  left = ap (λ v. v.left - 1) c.self.view_is;
  none = tt;
}
