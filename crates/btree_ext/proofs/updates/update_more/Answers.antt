use Rattle.btree_ext.proofs.Common.{◌≡◌, ◌∙◌, Some, None, sym, ap, subst, Address, view, nodes_needed, EMPTY, IsGapFor, IsInserted}
use Rattle.std.proofs.Common.{false}
use Rattle.btree_raw.specs.Claimed.{CanHoldMore, MayRefuseOneOf}
use Rattle.btree_ext.proofs.UpdateKeyLemmas.{gap-used}
use Rattle.btree_ext.proofs.updates.update_more.Goals as goal

pub need-count-requires-clause-used : goal.need-count-requires-clause-used
need-count-requires-clause-used g c = gap-used g.K.Ord.cmp c.args.key c.args.tree.now (view c.gap.inside) c.requires.some (rw (← c.gap.view_is) at c.requires.gap)

pub returns-then-not-claim-clause-refused : goal.returns-then-not-claim-clause-refused
returns-then-not-claim-clause-refused g c =
    let none : c.claim.result ≡ false = (let e = c.if-not-claim.true in cc) in (
      c.claim.ensures.refused none,
      subst (λ n. MayRefuseOneOf EMPTY g.C.NodesMut.MayRefuse c.args.tree.now.nodes n) (c.need-count.ensures.value ∙ ap (λ (a : Address). nodes_needed c.args.tree.now a.id) c.gap.view_is) (c.claim.ensures.may_refuse none),
      c.requires.granted,
    )

pub release-requires : goal.release-requires
release-requires g c = (c.args.tree.now, c.claim.ensures.claimed c.if-not-claim.false)

pub returns-in_default-clause-updated : goal.returns-in_default-clause-updated
returns-in_default-clause-updated g c = record {
  given = None;
  ran = subst (λ o. goal.F-post g c.args.action None (o, c.action-given.result.1)) c.in_default.is c.action-given.ensures;
  updates = c.release.ensures.back c.args.tree.now (c.claim.ensures.claimed c.if-not-claim.false);
}

pub insert_claimed-at-requires : goal.insert_claimed-at-requires
insert_claimed-at-requires g c = (
  c.args.tree.now,
  record {
    tree = c.requires.tree;
    some = c.requires.some;
    gap = subst (λ (q : g.row.K.Denot × g.row.V.Denot). IsGapFor g.K.Ord.cmp q.0 c.args.tree.now c.args.gap) (sym c.new.ensures) c.requires.gap;
    room = c.requires.room;
    below_limit = c.requires.granted;
    claimed = c.claim.ensures.claimed c.if-not-claim.false;
    enough = c.claim.ensures.count c.if-not-claim.false ∙ c.need-count.ensures.value ∙ ap (λ (a : Address). nodes_needed c.args.tree.now a.id) c.gap.view_is;
  },
)

pub returns-clause-updated : goal.returns-clause-updated
returns-clause-updated g c = record {
  given = Some c.in-Some.value;
  ran = subst (λ o. goal.F-post g c.args.action None (o, c.action-given.result.1)) c.in-Some.is c.action-given.ensures;
  updates = (
    c.insert_claimed-at.result,
    subst (λ (q : g.row.K.Denot × g.row.V.Denot). IsInserted g.K.Ord.cmp c.args.tree.now c.insert_claimed-at.new.tree c.args.gap c.insert_claimed-at.result q) c.new.ensures
        (c.insert_claimed-at.ensures c.args.tree.now (record {
          tree = c.requires.tree;
          some = c.requires.some;
          gap = subst (λ (q : g.row.K.Denot × g.row.V.Denot). IsGapFor g.K.Ord.cmp q.0 c.args.tree.now c.args.gap) (sym c.new.ensures) c.requires.gap;
          room = c.requires.room;
          below_limit = c.requires.granted;
          claimed = c.claim.ensures.claimed c.if-not-claim.false;
          enough = c.claim.ensures.count c.if-not-claim.false ∙ c.need-count.ensures.value ∙ ap (λ (a : Address). nodes_needed c.args.tree.now a.id) c.gap.view_is;
        })),
  );
}

pub returns-in_default-clause-granted : goal.returns-in_default-clause-granted
returns-in_default-clause-granted g c = (
  subst (λ n. CanHoldMore EMPTY g.C.Nodes.CanHold c.args.tree.now.nodes n) (c.need-count.ensures.value ∙ ap (λ (a : Address). nodes_needed c.args.tree.now a.id) c.gap.view_is) (c.claim.ensures.can_hold c.if-not-claim.false),
  c.requires.granted,
)

pub returns-clause-granted : goal.returns-clause-granted
returns-clause-granted g c = (
  subst (λ n. CanHoldMore EMPTY g.C.Nodes.CanHold c.args.tree.now.nodes n) (c.need-count.ensures.value ∙ ap (λ (a : Address). nodes_needed c.args.tree.now a.id) c.gap.view_is) (c.claim.ensures.can_hold c.if-not-claim.false),
  c.requires.granted,
)
