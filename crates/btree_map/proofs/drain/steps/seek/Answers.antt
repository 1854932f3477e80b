use Rattle.btree_map.proofs.Common.{◌∙◌, ◌++◌, ◌∷◌, [], false, refl, rules, left_of}
use Rattle.btree_map.proofs.DrainRuns.{first-accepts, head-is, runs-start, runs-passed, runs-taken, runs-callable, still-none, fewer-left, same-lent}
use Rattle.btree_map.proofs.drain.steps.seek.Goals as goal

pub loop-entries-init : goal.loop-entries-init
loop-entries-init g c = record { asked = []; none = refl; same_map = refl; run = runs-start _ _ _ _ _; callable = c.requires }

pub ask-requires-clause-accepts : goal.ask-requires-clause-accepts
ask-requires-clause-accepts g c k v is =
    let cut = head-is _ _ is in
    first-accepts _ _ _ k v cut.0 c.loop-entries.invariant.callable cut.1

pub returns-then-ask-clause-yields : goal.returns-then-ask-clause-yields
returns-then-ask-clause-yields g c =
    let now = c.loop-entries.invariant in
    let first = rw c.if-ask.true at c.ask.ensures in
    let removes = rw c.in-Some.is at c.remove.ensures.removed in
    let taken = runs-taken _ _ _ _ _ c.args.entries.now c.loop-entries.entries _ _ now.run _ c.in-Some.item first removes in
    (now.asked, now.none, rw c.into_pair.ensures taken)

pub returns-then-ask-clause-callable : goal.returns-then-ask-clause-callable
returns-then-ask-clause-callable g c =
    let now = c.loop-entries.invariant in
    let removes = rw c.in-Some.is at c.remove.ensures.removed in
    runs-callable _ _ _ _ _ c.args.entries.now c.loop-entries.entries _ _ now.run c.remove.new.self _ _ c.ask.ensures removes.left now.callable

pub loop-entries-smaller : goal.loop-entries-smaller
loop-entries-smaller g c =
    let now = c.loop-entries.invariant in
    fewer-left _ _ _ _ _ c.args.entries.now c.loop-entries.entries _ _ now.run _ c.ask.ensures _ (left_of c.pass.new.self) c.pass.ensures.1.left

pub loop-entries-preserved : goal.loop-entries-preserved
loop-entries-preserved g c =
    let now = c.loop-entries.invariant in
    let first = rw c.if-ask.false at c.ask.ensures in
    record {
      asked = now.asked ++ (false, c.pass.ensures.0) ∷ [];
      none = still-none now.asked c.pass.ensures.0 now.none;
      same_map = c.pass.ensures.1.same_map ∙ same-lent _ _ _ _ _ c.args.entries.now c.loop-entries.entries _ _ now.run _ first _ _ c.pass.ensures.1.left ∙ now.same_map;
      run = runs-passed _ _ _ _ _ c.args.entries.now c.loop-entries.entries _ _ now.run _ _ first c.pass.ensures.1;
      callable = runs-callable _ _ _ _ _ c.args.entries.now c.loop-entries.entries _ _ now.run c.pass.new.self _ _ c.ask.ensures c.pass.ensures.1.left now.callable;
    }

pub returns-clause-yields : goal.returns-clause-yields
returns-clause-yields g c =
    let now = c.loop-entries.invariant in
    (now.asked, now.none, (now.run, c.is_empty.ensures.none.0 (search rules)))

pub returns-then-ask-clause-same_map : goal.returns-then-ask-clause-same_map
returns-then-ask-clause-same_map g c =
    let now = c.loop-entries.invariant in
    let removes = rw c.in-Some.is at c.remove.ensures.removed in
    removes.same_map ∙ same-lent _ _ _ _ _ c.args.entries.now c.loop-entries.entries _ _ now.run _ c.ask.ensures _ _ removes.left ∙ now.same_map

pub returns-clause-same_map : goal.returns-clause-same_map
returns-clause-same_map g c = c.loop-entries.invariant.same_map
