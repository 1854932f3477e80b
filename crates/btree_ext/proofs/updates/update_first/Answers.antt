use Rattle.btree_ext.proofs.Common.{Some, None, refl, subst, get-insert_same, EMPTY}
use Rattle.btree_ext.proofs.FirstLemmas.{first-inserted}
use Rattle.btree_ext.proofs.UpdateKeyLemmas.{one-freed, one-granted}
use Rattle.btree_ext.proofs.updates.update_first.Goals as goal

pub release_node-requires : goal.release_node-requires
release_node-requires g c =
    (c.tell_fits.ensures, rw (c.in-Some.ensures.claimed, get-insert_same c.args.tree.now.nodes c.in-Some.root EMPTY) refl)

pub returns-in_default-given-clause-updated : goal.returns-in_default-given-clause-updated
returns-in_default-given-clause-updated g c = record {
  given = None;
  ran = subst (λ o. goal.F-post g c.args.action None (o, c.action-given.result.1)) c.in_default-given.is c.action-given.ensures;
  updates = one-freed c.args.tree.now c.claim_one.new.tree c.release_node.new.self c.in-Some.root c.in-Some.ensures.claimed c.in-Some.ensures.unused c.release_node.ensures.after;
}

pub put-requires : goal.put-requires
put-requires g c =
    (c.tell_fits.ensures, rw (c.in-Some.ensures.claimed, get-insert_same c.args.tree.now.nodes c.in-Some.root EMPTY) refl)

pub returns-clause-updated : goal.returns-clause-updated
returns-clause-updated g c = record {
  given = Some c.in-Some-given.value;
  ran = subst (λ o. goal.F-post g c.args.action None (o, c.action-given.result.1)) c.in-Some-given.is c.action-given.ensures;
  updates = (
    record { id = c.in-Some.root; offset = Some 0 },
    rw (c.set_len.ensures, c.set_root_id.ensures)
        (first-inserted g.K.Ord.cmp c.args.tree.now c.claim_one.new.tree c.put.new.tree c.in-Some.root c.requires.empty c.requires.tree
        c.leaf.result (c.args.key, c.in-Some-given.value) c.in-Some.ensures.claimed c.put.ensures (rw (← c.new.ensures) c.leaf.ensures) c.args.gap
        (record { id = c.in-Some.root; offset = Some 0 }) refl c.requires.granted),
  );
}

pub returns-in_default-given-clause-granted : goal.returns-in_default-given-clause-granted
returns-in_default-given-clause-granted g c = (
  one-granted c.args.tree.now c.claim_one.new.tree g.C.Nodes.CanHold c.args.gap.id c.in-Some.root c.requires.empty c.in-Some.ensures.claimed
      c.in-Some.ensures.unused c.in-Some.ensures.number c.in-Some.ensures.can_hold,
  c.requires.granted,
)

pub returns-clause-granted : goal.returns-clause-granted
returns-clause-granted g c = (
  one-granted c.args.tree.now c.claim_one.new.tree g.C.Nodes.CanHold c.args.gap.id c.in-Some.root c.requires.empty c.in-Some.ensures.claimed
      c.in-Some.ensures.unused c.in-Some.ensures.number c.in-Some.ensures.can_hold,
  c.requires.granted,
)

pub leaf-requires : goal.leaf-requires
leaf-requires g c = c.tell_fits.ensures
