use Rattle.btree_valid.proofs.Common.{◌∙◌, None, subst, arith, inl, is_some, option_map, refl, sym, ap, err_from_is_err_and, view_of, children_of}
use Rattle.btree_valid.specs.Spots.{freed}
use Rattle.btree_valid.proofs.BlameLemmas.{child-blamed, end-blamed, leaf-blamed, next-met, start-met, too-deep, verdict-blamed}
use Rattle.btree_valid.proofs.FaultLemmas.{child-next, child-ok, inner-end, inner-start, leaf-met, nothing-begins, here-passes, past-end}
use Rattle.btree_valid.proofs.ExactLemmas.{IsDone, done-all, done-next, leaf-found}
use Rattle.btree_valid.proofs.NameLemmas.{names-child, names-deep, names-leaf, names-own, names-unused}
use Rattle.btree_valid.proofs.faults.+check_under.Goals as goal

pub returns-in_default-clause-always : goal.returns-in_default-clause-always
returns-in_default-clause-always g t c = λ height part begins can. absurd (nothing-begins (g.C.Nodes.content c.args.nodes.now) g.K.Ord.cmp c.args.exempt c.args.spot c.args.met (ap (option_map view_of) (sym c.in_default.ensures.value)) height part begins)

pub returns-in_err-check_node-clause-always : goal.returns-in_err-check_node-clause-always
returns-in_err-check_node-clause-always g t c = λ height part begins can.
    let ok = c.check_node.ensures.passes.1 (here-passes (g.C.Nodes.content c.args.nodes.now) g.K.Ord.cmp c.args.exempt c.args.spot c.args.met (view_of c.in-Some.node.now) (ap (option_map view_of) (sym c.in-Some.ensures.value)) height part begins) in
    let err = c.in_err-check_node.was in
    absurd (cc)

pub returns-then-is_none-clause-always : goal.returns-then-is_none-clause-always
returns-then-is_none-clause-always g t c = leaf-met (g.C.Nodes.content c.args.nodes.now) g.K.Ord.cmp c.args.exempt c.args.spot c.args.met (view_of c.in-Some.node.now) (ap (option_map view_of) (sym c.in-Some.ensures.value)) c.count_node-counted.result c.count_node-counted.ensures.leaves (rw (← c.item_count.ensures.value) c.count_node-counted.ensures.items) c.count_node-counted.ensures.nodes (ap is_some (sym c.child_id_opt.ensures) ∙ c.if-is_none.ensures) c.meet_leaf.result c.meet_leaf.ensures.always

pub loop-index-init : goal.loop-index-init
loop-index-init g t c = (
  inl (
    refl,
    record {
      leaves = c.count_node-counted.ensures.leaves;
      items = rw (← c.item_count.ensures.value) c.count_node-counted.ensures.had_items;
      nodes = c.count_node-counted.ensures.had_nodes;
    },
  ),
  inner-start (g.C.Nodes.content c.args.nodes.now) g.K.Ord.cmp c.args.exempt c.args.spot c.args.met (view_of c.in-Some.node.now) (ap (option_map view_of) (sym c.in-Some.ensures.value)) c.count_node-counted.result c.count_node-counted.ensures.leaves (rw (← c.item_count.ensures.value) c.count_node-counted.ensures.items) c.count_node-counted.ensures.nodes,
  λ none. start-met (g.C.Nodes.content c.args.nodes.now) g.K.Ord.cmp c.args.spot c.args.met c.count_node-counted.result c.count_node-counted.ensures.leaves,
)

pub returns-in_default-child_id_opt-clause-always : goal.returns-in_default-child_id_opt-clause-always
returns-in_default-child_id_opt-clause-always g t c = λ height part begins can. absurd (past-end (children_of (view_of c.in-Some.node.now)) c.loop-index.index (omega (arith, c.loop-index-test.true, c.child_count-index-end.ensures.value)) c.in_default-child_id_opt.ensures)

pub returns-in_err-passed-clause-always : goal.returns-in_err-passed-clause-always
returns-in_err-passed-clause-always g t c = λ height part begins can. absurd (child-ok (g.C.Nodes.content c.args.nodes.now) g.K.Ord.cmp c.args.exempt c.args.spot c.args.met (view_of c.in-Some.node.now) (ap (option_map view_of) (sym c.in-Some.ensures.value)) (ap is_some (sym c.child_id_opt.ensures) ∙ c.if-is_none.ensures) c.loop-index.index c.loop-index.passed c.loop-index.invariant.1 c.in-Some-child_id_opt.child c.in-Some-child_id_opt.ensures c.below.result c.below.ensures.level c.below.ensures.parent c.below.ensures.id c.below.ensures.min c.below.ensures.max c.check_under.result c.check_under.ensures.always c.in_err-passed.field-0.0 c.in_err-passed.was height part begins can)

pub loop-index-preserved : goal.loop-index-preserved
loop-index-preserved g t c = (done-next (g.C.Nodes.content c.args.nodes.now) g.K.Ord.cmp g.met.K.Ord.total c.args.exempt c.args.spot c.args.met (view_of c.in-Some.node.now) c.loop-index.index c.loop-index.passed c.in-Some-child_id_opt.child c.in-Some-child_id_opt.ensures c.below.result c.below.ensures.level c.below.ensures.parent c.below.ensures.id c.below.ensures.min c.below.ensures.max c.loop-index.invariant.0 c.check_under.result c.check_under.ensures.only c.in_ok-passed.passed c.in_ok-passed.was, child-next (g.C.Nodes.content c.args.nodes.now) g.K.Ord.cmp c.args.exempt c.args.spot c.args.met (view_of c.in-Some.node.now) (ap (option_map view_of) (sym c.in-Some.ensures.value)) (ap is_some (sym c.child_id_opt.ensures) ∙ c.if-is_none.ensures) c.loop-index.index c.loop-index.passed c.loop-index.invariant.1 c.in-Some-child_id_opt.child c.in-Some-child_id_opt.ensures c.below.result c.below.ensures.level c.below.ensures.parent c.below.ensures.id c.below.ensures.min c.below.ensures.max c.check_under.result c.check_under.ensures.always c.in_ok-passed.passed c.in_ok-passed.was, λ none. next-met (g.C.Nodes.content c.args.nodes.now) g.K.Ord.cmp c.args.spot c.args.met (view_of c.in-Some.node.now) (ap (option_map view_of) (sym c.in-Some.ensures.value)) (ap is_some (sym c.child_id_opt.ensures) ∙ c.if-is_none.ensures) c.loop-index.index c.loop-index.passed (c.loop-index.invariant.2 none) c.in-Some-child_id_opt.child c.in-Some-child_id_opt.ensures c.below.result c.below.ensures.level c.below.ensures.parent c.below.ensures.id c.below.ensures.min c.below.ensures.max c.check_under.result (c.check_under.ensures.blames none) c.in_ok-passed.passed c.in_ok-passed.was)

pub returns-clause-always : goal.returns-clause-always
returns-clause-always g t c = inner-end (g.C.Nodes.content c.args.nodes.now) g.K.Ord.cmp c.args.exempt c.args.spot c.args.met (view_of c.in-Some.node.now) (ap (option_map view_of) (sym c.in-Some.ensures.value)) (ap is_some (sym c.child_id_opt.ensures) ∙ c.if-is_none.ensures) c.loop-index.index c.loop-index.passed c.loop-index.invariant.1 (omega (arith, c.loop-index-test.false, c.child_count-index-end.ensures.value)) _ refl

pub returns-then-is_none-clause-only : goal.returns-then-is_none-clause-only
returns-then-is_none-clause-only g t c = leaf-found (g.C.Nodes.content c.args.nodes.now) g.K.Ord.cmp g.met.K.Ord.total c.args.exempt c.args.spot c.args.met (view_of c.in-Some.node.now) (ap (option_map view_of) (sym c.in-Some.ensures.value)) (c.check_node.ensures.passes.0 c.in_ok-check_node.was) (ap is_some (sym c.child_id_opt.ensures) ∙ c.if-is_none.ensures) (omega (arith, c.if-spot-ge-MAX_LEVELS.false)) c.count_node-counted.result (record {
  leaves = c.count_node-counted.ensures.leaves;
  items = rw (← c.item_count.ensures.value) c.count_node-counted.ensures.had_items;
  nodes = c.count_node-counted.ensures.had_nodes;
}) c.meet_leaf.result c.meet_leaf.ensures.only

pub returns-in_default-child_id_opt-clause-only : goal.returns-in_default-child_id_opt-clause-only
returns-in_default-child_id_opt-clause-only g t c = absurd (past-end (children_of (view_of c.in-Some.node.now)) c.loop-index.index (omega (arith, c.loop-index-test.true, c.child_count-index-end.ensures.value)) c.in_default-child_id_opt.ensures)

pub returns-clause-only : goal.returns-clause-only
returns-clause-only g t c = done-all (g.C.Nodes.content c.args.nodes.now) g.K.Ord.cmp g.met.K.Ord.total c.args.exempt c.args.spot c.args.met (view_of c.in-Some.node.now) (ap (option_map view_of) (sym c.in-Some.ensures.value)) (c.check_node.ensures.passes.0 c.in_ok-check_node.was) (ap is_some (sym c.child_id_opt.ensures) ∙ c.if-is_none.ensures) c.loop-index.index c.loop-index.passed (omega (arith, c.loop-index-test.false, c.child_count-index-end.ensures.value)) c.loop-index.invariant.0

pub returns-in_default-clause-blames : goal.returns-in_default-clause-blames
returns-in_default-clause-blames g t c = λ none. λ own height part begins can. absurd (nothing-begins (g.C.Nodes.content c.args.nodes.now) g.K.Ord.cmp None (freed (g.C.Nodes.content c.args.nodes.now) g.K.Ord.cmp c.args.spot own) c.args.met (ap (option_map view_of) (sym c.in_default.ensures.value)) height part begins)

pub returns-in_err-check_node-clause-blames : goal.returns-in_err-check_node-clause-blames
returns-in_err-check_node-clause-blames g t c = λ none.
    let e = err_from_is_err_and c.from_residual.result c.from_residual.ensures.1 in
    rw (e.1, e.2) (verdict-blamed (g.C.Nodes.content c.args.nodes.now) g.K.Ord.cmp c.args.spot c.args.met (view_of c.in-Some.node.now) (ap (option_map view_of) (sym c.in-Some.ensures.value)) c.check_node.result (c.check_node.ensures.verdict none) c.in_err-check_node.field-0.0 c.in_err-check_node.was)

pub returns-then-spot-ge-MAX_LEVELS-clause-blames : goal.returns-then-spot-ge-MAX_LEVELS-clause-blames
returns-then-spot-ge-MAX_LEVELS-clause-blames g t c = λ none. λ own height part begins can. absurd (too-deep (g.C.Nodes.content c.args.nodes.now) g.K.Ord.cmp c.args.spot c.args.met (omega (arith, c.if-spot-ge-MAX_LEVELS.true)) own height part begins)

pub returns-then-is_none-clause-blames : goal.returns-then-is_none-clause-blames
returns-then-is_none-clause-blames g t c = λ none. leaf-blamed (g.C.Nodes.content c.args.nodes.now) g.K.Ord.cmp c.args.spot c.args.met (view_of c.in-Some.node.now) (ap (option_map view_of) (sym c.in-Some.ensures.value)) (ap is_some (sym c.child_id_opt.ensures) ∙ c.if-is_none.ensures) c.count_node-counted.result c.count_node-counted.ensures.leaves c.meet_leaf.result c.meet_leaf.ensures.always

pub returns-in_default-child_id_opt-clause-blames : goal.returns-in_default-child_id_opt-clause-blames
returns-in_default-child_id_opt-clause-blames g t c = λ none. absurd (past-end (children_of (view_of c.in-Some.node.now)) c.loop-index.index (omega (arith, c.loop-index-test.true, c.child_count-index-end.ensures.value)) c.in_default-child_id_opt.ensures)

pub returns-in_err-passed-clause-blames : goal.returns-in_err-passed-clause-blames
returns-in_err-passed-clause-blames g t c = λ none.
    let e = err_from_is_err_and c.from_residual-in_err-passed.result c.from_residual-in_err-passed.ensures.1 in
    rw (e.1, e.2) (child-blamed (g.C.Nodes.content c.args.nodes.now) g.K.Ord.cmp c.args.spot c.args.met (view_of c.in-Some.node.now) (ap (option_map view_of) (sym c.in-Some.ensures.value)) (ap is_some (sym c.child_id_opt.ensures) ∙ c.if-is_none.ensures) c.loop-index.index c.loop-index.passed (c.loop-index.invariant.2 none) c.in-Some-child_id_opt.child c.in-Some-child_id_opt.ensures c.below.result c.below.ensures.level c.below.ensures.parent c.below.ensures.id c.below.ensures.min c.below.ensures.max c.check_under.result (c.check_under.ensures.blames none) c.in_err-passed.field-0.0 c.in_err-passed.was)

pub returns-clause-blames : goal.returns-clause-blames
returns-clause-blames g t c = λ none. end-blamed (g.C.Nodes.content c.args.nodes.now) g.K.Ord.cmp c.args.spot c.args.met (view_of c.in-Some.node.now) (ap (option_map view_of) (sym c.in-Some.ensures.value)) (ap is_some (sym c.child_id_opt.ensures) ∙ c.if-is_none.ensures) c.loop-index.index c.loop-index.passed (c.loop-index.invariant.2 none) (omega (arith, c.loop-index-test.false, c.child_count-index-end.ensures.value))

pub returns-in_default-clause-names : goal.returns-in_default-clause-names
returns-in_default-clause-names g t c = λ none. names-unused (g.C.Nodes.content c.args.nodes.now) g.K.Ord.cmp c.args.spot c.args.met (ap (option_map view_of) (sym c.in_default.ensures.value))

pub returns-in_err-check_node-clause-names : goal.returns-in_err-check_node-clause-names
returns-in_err-check_node-clause-names g t c = λ none.
    let e = err_from_is_err_and c.from_residual.result c.from_residual.ensures.1 in
    rw (e.1, e.2) (names-own (g.C.Nodes.content c.args.nodes.now) g.K.Ord.cmp c.args.spot c.args.met (view_of c.in-Some.node.now) (ap (option_map view_of) (sym c.in-Some.ensures.value)) c.check_node.result (c.check_node.ensures.verdict none) c.in_err-check_node.field-0.0 c.in_err-check_node.was)

pub returns-then-spot-ge-MAX_LEVELS-clause-names : goal.returns-then-spot-ge-MAX_LEVELS-clause-names
returns-then-spot-ge-MAX_LEVELS-clause-names g t c = λ none. names-deep (g.C.Nodes.content c.args.nodes.now) g.K.Ord.cmp c.args.spot c.args.met (view_of c.in-Some.node.now) (ap (option_map view_of) (sym c.in-Some.ensures.value)) c.check_node.result c.in_ok-check_node.was (c.check_node.ensures.verdict none) (omega (arith, c.if-spot-ge-MAX_LEVELS.true))

pub returns-then-is_none-clause-names : goal.returns-then-is_none-clause-names
returns-then-is_none-clause-names g t c = λ none. names-leaf (g.C.Nodes.content c.args.nodes.now) g.K.Ord.cmp c.args.spot c.args.met (view_of c.in-Some.node.now) (ap (option_map view_of) (sym c.in-Some.ensures.value)) c.check_node.result c.in_ok-check_node.was (c.check_node.ensures.verdict none) (omega (arith, c.if-spot-ge-MAX_LEVELS.false)) (ap is_some (sym c.child_id_opt.ensures) ∙ c.if-is_none.ensures) c.count_node-counted.result c.count_node-counted.ensures.leaves c.meet_leaf.result c.meet_leaf.ensures.fault

pub returns-in_default-child_id_opt-clause-names : goal.returns-in_default-child_id_opt-clause-names
returns-in_default-child_id_opt-clause-names g t c = λ none. λ origin k. tt

pub returns-in_err-passed-clause-names : goal.returns-in_err-passed-clause-names
returns-in_err-passed-clause-names g t c = λ none.
    let e = err_from_is_err_and c.from_residual-in_err-passed.result c.from_residual-in_err-passed.ensures.1 in
    rw (e.1, e.2) (names-child (g.C.Nodes.content c.args.nodes.now) g.K.Ord.cmp c.args.spot c.args.met (view_of c.in-Some.node.now) (ap (option_map view_of) (sym c.in-Some.ensures.value)) c.check_node.result c.in_ok-check_node.was (c.check_node.ensures.verdict none) (omega (arith, c.if-spot-ge-MAX_LEVELS.false)) g.met.K.Ord.total (ap is_some (sym c.child_id_opt.ensures) ∙ c.if-is_none.ensures) c.loop-index.index c.loop-index.passed c.in-Some-child_id_opt.child c.in-Some-child_id_opt.ensures c.below.result c.below.ensures.level c.below.ensures.parent c.below.ensures.id c.below.ensures.min c.below.ensures.max (subst (λ e. IsDone (g.C.Nodes.content c.args.nodes.now) g.K.Ord.cmp g.met.K.Ord.total e c.args.spot c.args.met (view_of c.in-Some.node.now) c.loop-index.index c.loop-index.passed) none c.loop-index.invariant.0) c.check_under.result (c.check_under.ensures.names none) c.in_err-passed.field-0.0 c.in_err-passed.was)

pub returns-clause-names : goal.returns-clause-names
returns-clause-names g t c = λ none. λ origin k. tt

pub get-requires : goal.get-requires
get-requires g t c = c.requires

pub check_node-requires : goal.check_node-requires
check_node-requires g t c = c.requires

pub item_count-requires : goal.item_count-requires
item_count-requires g t c = c.requires

pub child_id_opt-requires : goal.child_id_opt-requires
child_id_opt-requires g t c = c.requires

pub child_count-index-end-requires : goal.child_count-index-end-requires
child_count-index-end-requires g t c = c.requires

pub child_id_opt-requires-in-loop-index : goal.child_id_opt-requires-in-loop-index
child_id_opt-requires-in-loop-index g t c = c.requires
