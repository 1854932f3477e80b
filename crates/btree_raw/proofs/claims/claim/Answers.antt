use Rattle.btree_raw.proofs.Common.{◌∷◌, [], arith, length-append, rules, subst, common_steps}
use Rattle.btree_raw.proofs.RefuseLemmas.{more-claims, refused-claims}
use Rattle.btree_raw.proofs.claims.claim.Goals as goal

pub release-requires : goal.release-requires
release-requires g c = (_, refused-claims c.args.tree.now c.loop-index.tree c.claim_one.new.tree c.loop-index.claims.items c.loop-index.invariant.held c.in-None.ensures.refused)

pub loop-index-preserved : goal.loop-index-preserved
loop-index-preserved g c = record {
  held = more-claims c.args.tree.now c.loop-index.tree c.claim_one.new.tree c.loop-index.claims.items c.push.new.self.items c.in-Some.id c.loop-index.invariant.held c.in-Some.ensures.unused c.in-Some.ensures.number c.in-Some.ensures.claimed c.push.ensures.items;
  counted = let n = length-append c.loop-index.claims.items (c.in-Some.id ∷ []) in rw c.push.ensures.items (let m = c.loop-index.invariant.counted in omega arith);
}

pub returns-in-None-clause-refused : goal.returns-in-None-clause-refused
returns-in-None-clause-refused g c e =
    c.release.ensures.back _ (refused-claims c.args.tree.now c.loop-index.tree c.claim_one.new.tree c.loop-index.claims.items c.loop-index.invariant.held c.in-None.ensures.refused)

pub loop-index-init : goal.loop-index-init
loop-index-init g c = search rules steps 200000

pub push-requires : goal.push-requires
push-requires g c = search rules steps 200000

pub returns-in-None-clause-claimed : goal.returns-in-None-clause-claimed
returns-in-None-clause-claimed g c = grind (arith, common_steps) steps 300000

pub returns-in-None-clause-count : goal.returns-in-None-clause-count
returns-in-None-clause-count g c = grind (arith, common_steps) steps 300000

pub returns-in-None-clause-none_left : goal.returns-in-None-clause-none_left
returns-in-None-clause-none_left g c = search rules steps 200000

pub returns-in-None-clause-may_refuse : goal.returns-in-None-clause-may_refuse
returns-in-None-clause-may_refuse g c = grind (arith, common_steps) steps 300000

pub loop-index-smaller : goal.loop-index-smaller
loop-index-smaller g c = search rules steps 200000

pub returns-clause-claimed : goal.returns-clause-claimed
returns-clause-claimed g c = search rules steps 200000

pub returns-clause-count : goal.returns-clause-count
returns-clause-count g c = search rules steps 200000

pub returns-clause-refused : goal.returns-clause-refused
returns-clause-refused g c = search rules steps 200000

pub returns-clause-none_left : goal.returns-clause-none_left
returns-clause-none_left g c = search rules steps 200000

pub returns-clause-may_refuse : goal.returns-clause-may_refuse
returns-clause-may_refuse g c = λ no. absurd (cc)

pub returns-clause-can_hold : goal.returns-clause-can_hold
returns-clause-can_hold g c = λ yes. record {
  ids = c.loop-index.claims.items;
  all = let n = c.loop-index.invariant.counted in let least = c.loop-index.auto.index-end in let most = c.loop-index-test.false in omega arith;
  claims = c.loop-index.invariant.held.claimed.claims;
  can = subst g.C.Nodes.CanHold c.loop-index.invariant.held.claimed.after c.node_count-held.ensures.can_hold;
}
