use Rattle.btree_map.proofs.Common.{◌∙◌, ◌++◌, ◌∷◌, [], not, refl, rules}
use Rattle.btree_map.proofs.DrainRuns.{first-accepts, head-is, runs-start, runs-passed, runs-taken, runs-callable, same-answer, same-lent, other-answer}
use Rattle.btree_map.proofs.drain.steps.run_rest.Goals as goal

pub loop-entries-init : goal.loop-entries-init
loop-entries-init g c = record { asked = []; same_map = refl; run = runs-start _ _ _ _ _; callable = c.requires }

pub ask-requires-clause-accepts : goal.ask-requires-clause-accepts
ask-requires-clause-accepts g c k v is =
    let cut = head-is _ _ is in
    first-accepts _ _ _ k v cut.0 c.loop-entries.invariant.callable cut.1

pub loop-entries-preserved-in-Some : goal.loop-entries-preserved-in-Some
loop-entries-preserved-in-Some g c =
    let now = c.loop-entries.invariant in
    let first = rw (same-answer c.ask.result c.args.takes c.if-ask-takes.true) at c.ask.ensures in
    let removes = rw c.in-Some.is at c.remove.ensures.removed in
    record {
      asked = now.asked ++ (c.args.takes, c.in-Some.field-0) ∷ [];
      same_map = removes.same_map ∙ same-lent _ _ _ _ _ c.args.entries.now c.loop-entries.entries _ _ now.run _ first _ _ removes.left ∙ now.same_map;
      run = runs-taken _ _ _ _ _ c.args.entries.now c.loop-entries.entries _ _ now.run _ _ first removes;
      callable = runs-callable _ _ _ _ _ c.args.entries.now c.loop-entries.entries _ _ now.run c.remove.new.self _ _ c.ask.ensures removes.left now.callable;
    }

pub loop-entries-preserved : goal.loop-entries-preserved
loop-entries-preserved g c =
    let now = c.loop-entries.invariant in
    let first = rw (other-answer c.ask.result c.args.takes c.if-ask-takes.false) at c.ask.ensures in
    record {
      asked = now.asked ++ (not c.args.takes, c.pass.ensures.0) ∷ [];
      same_map = c.pass.ensures.1.same_map ∙ same-lent _ _ _ _ _ c.args.entries.now c.loop-entries.entries _ _ now.run _ first _ _ c.pass.ensures.1.left ∙ now.same_map;
      run = runs-passed _ _ _ _ _ c.args.entries.now c.loop-entries.entries _ _ now.run _ _ first c.pass.ensures.1;
      callable = runs-callable _ _ _ _ _ c.args.entries.now c.loop-entries.entries _ _ now.run c.pass.new.self _ _ c.ask.ensures c.pass.ensures.1.left now.callable;
    }

pub returns-clause-ends : goal.returns-clause-ends
returns-clause-ends g c =
    let now = c.loop-entries.invariant in
    (now.asked, now.run, c.is_empty.ensures.none.0 (search rules))

pub returns-clause-same_map : goal.returns-clause-same_map
returns-clause-same_map g c = c.loop-entries.invariant.same_map
