use Rattle.btree_ext.proofs.Common.{◌∙◌, Option, Some, None, IfSome, sym, ap, subst, view_of, with_other_item_at}
use Rattle.btree_ext.proofs.RemoveInnerLemmas.{inner-settled}
use Rattle.btree_ext.proofs.UpdateInnerLemmas.{held-internal, held-occupied, held-used, inner-exchanged, inner-had, last-leaf, last-room, leaf-used}
use Rattle.btree_ext.proofs.updates_at.update_inner.Goals as goal

pub action-given-requires : goal.action-given-requires
action-given-requires g c =
    let pre = subst (λ o. IfSome o (λ x. goal.F-pre g c.args.action x.1)) (inner-had g.met.K.Ord.total c.requires.tree c.requires.inner c.take_inner-item.ensures.taken) c.requires.callable in
    subst (λ v. goal.F-pre g c.args.action v) (ap (λ p. p.1) (sym c.into_pair-key.ensures)) pre

pub returns-in_default : goal.returns-in_default
returns-in_default g c = record {
  item = c.take_inner-item.result.0;
  had = inner-had g.met.K.Ord.total c.requires.tree c.requires.inner c.take_inner-item.ensures.taken;
  given = None;
  ran = subst (λ (p : g.row.V.Denot × Option g.row.V.Denot). goal.F-post g c.args.action p.0 (p.1, c.action-given.result.1))
      (λ i. ((c.into_pair-key.ensures i).1, c.in_default.is i)) c.action-given.ensures;
  updates = (
    c.settle.result,
    inner-settled g.met.K.Ord.total c.requires.tree c.requires.inner c.take_inner-item.ensures.taken c.settle.ensures.few
        c.take_inner-item.result.4 c.take_inner-item.ensures.behind c.settle.new.tree c.settle.result c.settle.ensures.rebalanced,
  );
}

pub node_mut-requires : goal.node_mut-requires
node_mut-requires g c = (c.tell_fits.ensures, held-used g.met.K.Ord.total c.requires.tree (rw (← c.addr.view_is) at c.requires.inner) (rw (← c.addr.view_is) at c.take_inner-item.ensures.taken))

pub replace-last-requires : goal.replace-last-requires
replace-last-requires g c =
    let inner = rw (← c.addr.view_is) at c.requires.inner in
    let t = rw (← c.addr.view_is) at c.take_inner-item.ensures.taken in (
      c.tell_fits.ensures,
      (
        held-internal g.met.K.Ord.total c.requires.tree inner t c.node_mut.result.now c.node_mut.ensures.value,
        held-occupied g.met.K.Ord.total c.requires.tree inner t c.node_mut.result.now c.node_mut.ensures.value,
      ),
    )

pub node_mut-requires-2 : goal.node_mut-requires-2
node_mut-requires-2 g c =
    let inner = rw (← c.addr.view_is) at c.requires.inner in
    let t = rw (← c.addr.view_is) at c.take_inner-item.ensures.taken in
    let put = c.replace-last.ensures.after ∙ ap (λ z. with_other_item_at c.addr.inside.offset z (view_of c.node_mut.result.now)) (c.new.ensures ∙ (λ i. ((c.into_pair-key.ensures i).0, c.in-Some.value))) in (
      c.tell_fits.ensures,
      leaf-used g.met.K.Ord.total c.requires.tree inner t c.node_mut.result.now c.node_mut.ensures.value
          c.in-Some.value c.replace-last.result c.replace-last.ensures.answer c.replace-last.new.self put,
    )

pub push_right-requires : goal.push_right-requires
push_right-requires g c =
    let inner = rw (← c.addr.view_is) at c.requires.inner in
    let t = rw (← c.addr.view_is) at c.take_inner-item.ensures.taken in
    let put = c.replace-last.ensures.after ∙ ap (λ z. with_other_item_at c.addr.inside.offset z (view_of c.node_mut.result.now)) (c.new.ensures ∙ (λ i. ((c.into_pair-key.ensures i).0, c.in-Some.value))) in (
      c.tell_fits.ensures,
      (
        last-room g.met.K.Ord.total c.requires.tree inner t c.node_mut.result.now c.node_mut.ensures.value
            c.in-Some.value c.replace-last.result c.replace-last.ensures.answer c.replace-last.new.self put c.node_mut-2.result.now c.node_mut-2.ensures.value,
        last-leaf g.met.K.Ord.total c.requires.tree inner t c.node_mut.result.now c.node_mut.ensures.value
            c.in-Some.value c.replace-last.result c.replace-last.ensures.answer c.replace-last.new.self put c.node_mut-2.result.now c.node_mut-2.ensures.value,
      ),
    )

pub returns : goal.returns
returns g c =
    let inner = rw (← c.addr.view_is) at c.requires.inner in
    let t = rw (← c.addr.view_is) at c.take_inner-item.ensures.taken in
    let put = c.replace-last.ensures.after ∙ ap (λ z. with_other_item_at c.addr.inside.offset z (view_of c.node_mut.result.now)) (c.new.ensures ∙ (λ i. ((c.into_pair-key.ensures i).0, c.in-Some.value))) in
    rw (← c.addr.view_is) record {
      item = c.take_inner-item.result.0;
      had = inner-had g.met.K.Ord.total c.requires.tree inner t;
      given = Some c.in-Some.value;
      ran = subst (λ (p : g.row.V.Denot × Option g.row.V.Denot). goal.F-post g c.args.action p.0 (p.1, c.action-given.result.1))
          (λ i. ((c.into_pair-key.ensures i).1, c.in-Some.is i)) c.action-given.ensures;
      updates = inner-exchanged g.met.K.Ord.total c.requires.tree inner t c.node_mut.result.now c.node_mut.ensures.value
          c.in-Some.value c.replace-last.result c.replace-last.ensures.answer c.replace-last.new.self put
          c.node_mut-2.result.now c.node_mut-2.ensures.value c.push_right.new.self c.push_right.ensures.after;
    }
