use Rattle.btree_raw.proofs.RefuseLemmas.{claim-used, less-claims}
use Rattle.btree_raw.proofs.claims.release.Goals as goal
use Rattle.btree_raw.proofs.Common.{common_steps, arith, rules}

pub release_node-requires : goal.release_node-requires
release_node-requires g c =
    let r = c.requires in (c.tell_fits.ensures, claim-used r.0 c.loop-id.tree c.loop-id.claims.items c.pop.new.self.items c.in-Some.id c.in-Some.ensures.items (c.loop-id.invariant r.0 r.1))

pub loop-id-preserved : goal.loop-id-preserved
loop-id-preserved g c = λ base is. less-claims base c.loop-id.tree c.release_node.new.self c.loop-id.claims.items c.pop.new.self.items c.in-Some.id c.in-Some.ensures.items c.release_node.ensures.after (c.loop-id.invariant base is)

pub tell_fits-requires : goal.tell_fits-requires
tell_fits-requires g c κs = search rules steps 200000

pub loop-id-init : goal.loop-id-init
loop-id-init g c = search rules steps 200000

pub pop-requires : goal.pop-requires
pop-requires g c = search rules steps 200000

-- `drop-requires-room-T-Destruct` is left out of this print (no verdict changes): its front end refused it

pub loop-id-smaller : goal.loop-id-smaller
loop-id-smaller g c = grind (arith, common_steps) steps 300000

pub returns-clause-back : goal.returns-clause-back
returns-clause-back g c = grind (arith, common_steps) steps 300000

pub returns-clause-none : goal.returns-clause-none
returns-clause-none g c = grind (arith, common_steps) steps 300000

-- `drop-requires-room-T-Destruct` is left out of this print (no verdict changes): its front end refused it
