use Rattle.btree_map.proofs.Common.{◌∙◌, subst, sym, true, Ends, entry_front}
use Rattle.btree_map.specs.Drain.{RunsOut}
use Rattle.btree_map.proofs.DrainRuns.{runs-out}
use Rattle.btree_map.proofs.drain.steps.run_out.Goals as goal

pub returns : goal.returns
returns g c =
    let step = g.P.PairTest.step in
    let start = c.at-entries.result in
    let end = c.run_rest.new.entries in
    let final = c.map-1.given.1 (sym (c.run_rest.ensures.same_map ∙ c.at-entries.ensures.same_map)) in
    let from = subst (λ n. Ends step true c.args.test.now c.run_rest.new.test start.map.now n end.map.now (entry_front end)) c.at-entries.ensures.front c.run_rest.ensures.ends in
    let ends = subst (λ s. Ends step true c.args.test.now c.run_rest.new.test s c.args.front end.map.now (entry_front end)) c.at-entries.ensures.unchanged from in
    subst (λ now. RunsOut step c.args.test.now c.args.front c.args.map.now now) (sym final)
    (runs-out _ _ _ _ _ _ _ ends)
