use Rattle.btree_set.proofs.Common.{drop, refl, CalledAt}
use Rattle.btree_set.specs.Drain.{IsDraining}
use Rattle.btree_set.proofs.DrainLemmas.{fewer-left, goes-on}
use Rattle.btree_set.proofs.drain.set.DrainFilterIterator.next.Goals as goal

pub returns-clause-steps : goal.returns-clause-steps
returns-clause-steps g c =
    let sought = c.seek-first in
    record {
      same_set = refl;
      yields = sought.ensures.yields;
      draining = record { stands = sought.ensures.stands; within = sought.ensures.within; callable = sought.ensures.callable };
    }

pub returns-clause-goes : goal.returns-clause-goes
returns-clause-goes g c =
    let d = c.args.self.now in
    let sought = c.seek-first in
    let steps = returns-clause-steps g c in
    goes-on (IsDraining g.F.FnMut) (λ d. drop d.front d.set.now.elements) d _ sought.result.2 steps.draining
    (fewer-left (CalledAt g.F.FnMut) d.test sought.new.test d.set.now d.front sought.new.set sought.result.1 sought.result.2 steps.yields)
