use Rattle.btree_ext.proofs.Common.{◌∙◌, Option, Some, None, IfSome, sym, ap, subst, view_of}
use Rattle.btree_view.specs.Edits.{with_item_at}
use Rattle.btree_find.specs.CallerLaws.{not-vacant}
use Rattle.btree_ext.proofs.ExchangeLemmas.{occupied-used}
use Rattle.btree_ext.proofs.RemoveAtLemmas.{leaf-had, leaf-settled}
use Rattle.btree_ext.proofs.UpdateLeafLemmas.{leaf-exchanged, still-leaf, still-room, still-used, still-within}
use Rattle.btree_ext.proofs.updates_at.update_at.Goals as goal

pub take_at-requires-clause-used : goal.take_at-requires-clause-used
take_at-requires-clause-used g c = occupied-used c.args.tree.now c.args.addr c.requires.occupied

pub unreachable-requires : goal.unreachable-requires
unreachable-requires g c = not-vacant c.args.tree.now c.args.addr c.requires.occupied (rw c.in-Nothing.is at c.take_at.ensures).0

pub update_inner-requires-clause-tree : goal.update_inner-requires-clause-tree
update_inner-requires-clause-tree g c = rw (rw c.in-Inner.is at c.take_at.ensures).2 c.requires.tree

pub update_inner-requires-clause-inner : goal.update_inner-requires-clause-inner
update_inner-requires-clause-inner g c = let inner = rw c.in-Inner.is at c.take_at.ensures in rw inner.2 inner.0

pub update_inner-requires-clause-behind : goal.update_inner-requires-clause-behind
update_inner-requires-clause-behind g c = let inner = rw c.in-Inner.is at c.take_at.ensures in rw inner.2 inner.1

pub update_inner-requires-clause-callable : goal.update_inner-requires-clause-callable
update_inner-requires-clause-callable g c = rw (rw c.in-Inner.is at c.take_at.ensures).2 c.requires.callable

pub returns-in-Inner : goal.returns-in-Inner
returns-in-Inner g c = rw (rw c.in-Inner.is at c.take_at.ensures).2 at c.update_inner.ensures

pub action-given-requires : goal.action-given-requires
action-given-requires g c =
    let pre = subst (λ o. IfSome o (λ x. goal.F-pre g c.args.action x.1)) (leaf-had g.met.K.Ord.total c.requires.tree (rw c.in-Leaf.is at c.take_at.ensures).0) c.requires.callable in
    subst (λ v. goal.F-pre g c.args.action v) (ap (λ p. p.1) (sym c.into_pair-key.ensures)) pre

pub settle-requires : goal.settle-requires
settle-requires g c = rw (← c.addr.view_is) (rw (c.in-Leaf.is, ← c.addr.view_is) at c.take_at.ensures).1

pub returns-in_default : goal.returns-in_default
returns-in_default g c =
    let t = (rw (c.in-Leaf.is, ← c.addr.view_is) at c.take_at.ensures).0 in
    rw (← c.addr.view_is) record {
      item = c.in-Leaf.item;
      had = leaf-had g.met.K.Ord.total c.requires.tree t;
      given = None;
      ran = subst (λ (p : g.row.V.Denot × Option g.row.V.Denot). goal.F-post g c.args.action p.0 (p.1, c.action-given.result.1))
          (λ i. ((c.into_pair-key.ensures i).1, c.in_default.is i)) c.action-given.ensures;
      updates = (
        c.settle.result,
        leaf-settled g.met.K.Ord.total c.requires.tree t c.settle.ensures.few c.settle.new.tree c.settle.result (rw (← c.addr.view_is) at c.settle.ensures.rebalanced),
      );
    }

pub node_mut-requires : goal.node_mut-requires
node_mut-requires g c = (c.tell_fits.ensures, still-used g.met.K.Ord.total c.requires.tree (rw (c.in-Leaf.is, ← c.addr-in-Leaf.view_is) at c.take_at.ensures).0)

pub insert-requires : goal.insert-requires
insert-requires g c =
    let t = (rw (c.in-Leaf.is, ← c.addr-in-Leaf.view_is) at c.take_at.ensures).0 in (
      c.tell_fits.ensures,
      (
        still-room g.met.K.Ord.total c.requires.tree t c.node_mut.result.now c.node_mut.ensures.value,
        (
          still-within g.met.K.Ord.total c.requires.tree t c.node_mut.result.now c.node_mut.ensures.value,
          still-leaf g.met.K.Ord.total c.requires.tree t c.node_mut.result.now c.node_mut.ensures.value,
        ),
      ),
    )

pub returns-in-Some : goal.returns-in-Some
returns-in-Some g c =
    let t = (rw (c.in-Leaf.is, ← c.addr-in-Leaf.view_is) at c.take_at.ensures).0 in
    rw (← c.addr-in-Leaf.view_is) record {
      item = c.in-Leaf.item;
      had = leaf-had g.met.K.Ord.total c.requires.tree t;
      given = Some c.in-Some.value;
      ran = subst (λ (p : g.row.V.Denot × Option g.row.V.Denot). goal.F-post g c.args.action p.0 (p.1, c.action-given.result.1))
          (λ i. ((c.into_pair-key.ensures i).1, c.in-Some.is i)) c.action-given.ensures;
      updates = leaf-exchanged g.met.K.Ord.total c.requires.tree t c.node_mut.result.now c.node_mut.ensures.value c.in-Some.value c.insert.new.self
          (c.insert.ensures ∙ ap (λ z. with_item_at c.addr-in-Leaf.inside.offset z None (view_of c.node_mut.result.now)) (c.new.ensures ∙ (λ i. ((c.into_pair-key.ensures i).0, c.in-Some.value))));
    }
