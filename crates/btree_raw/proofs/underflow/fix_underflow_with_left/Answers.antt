use Rattle.btree_raw.proofs.Common.{subst, sym, TreeState, KeepsRest, node_map, MergesSiblings, AreAdjacent, FitTogether, PassesUnderflowUp}
use Rattle.btree_raw.proofs.UnderflowLemmas.{left-borrows, left-few, left-merges}
use Rattle.btree_raw.proofs.underflow.fix_underflow_with_left.Goals as goal

pub borrow_from_left-requires-clause-adjacent : goal.borrow_from_left-requires-clause-adjacent
borrow_from_left-requires-clause-adjacent g c =
    c.requires.adjacent

pub borrow_from_left-requires-clause-low : goal.borrow_from_left-requires-clause-low
borrow_from_left-requires-clause-low g c =
    c.requires.low

pub returns-in-Some-clause-borrows : goal.returns-in-Some-clause-borrows
returns-in-Some-clause-borrows g c = λ yes none. left-borrows (node_map c.args.tree.now) c.args.siblings c.args.addr c.requires.adjacent none (node_map c.borrow_from_left.new.tree) c.in-Some.ensures.spare c.in-Some.ensures.rotates.nodes

pub returns-in-Some-clause-here : goal.returns-in-Some-clause-here
returns-in-Some-clause-here g c = λ yes.
    c.in-Some.ensures.here

pub returns-in-Some-clause-rest : goal.returns-in-Some-clause-rest
returns-in-Some-clause-rest g c = c.in-Some.ensures.rotates.rest

pub returns-in-Some-clause-back : goal.returns-in-Some-clause-back
returns-in-Some-clause-back g c = λ is.
    c.in-Some.ensures.back is

pub merge_siblings-requires-clause-adjacent : goal.merge_siblings-requires-clause-adjacent
merge_siblings-requires-clause-adjacent g c = (
  c.args.siblings.right,
  subst (λ (t : TreeState _ _). AreAdjacent (node_map t) c.args.siblings c.args.siblings.right c.args.addr) (sym c.in-None.ensures.unchanged) c.requires.adjacent,
)

pub merge_siblings-requires-clause-few : goal.merge_siblings-requires-clause-few
merge_siblings-requires-clause-few g c =
    subst (λ (t : TreeState _ _). FitTogether (node_map t) c.args.siblings) (sym c.in-None.ensures.unchanged)
    (left-few (node_map c.args.tree.now) c.args.siblings c.args.addr c.requires.adjacent c.in-None.ensures.none c.requires.short)

pub returns-in-None-clause-merges : goal.returns-in-None-clause-merges
returns-in-None-clause-merges g c = λ yes none.
    left-merges (node_map c.args.tree.now) c.args.siblings c.args.addr c.requires.adjacent none (node_map c.merge_siblings.new.tree) c.in-None.ensures.none
    (subst (λ (t : TreeState _ _). MergesSiblings (node_map t) (node_map c.merge_siblings.new.tree) c.args.siblings) c.in-None.ensures.unchanged
    c.merge_siblings.ensures.merges.nodes)

pub returns-in-None-clause-above : goal.returns-in-None-clause-above
returns-in-None-clause-above g c = λ yes.
    subst (λ (t : TreeState _ _). PassesUnderflowUp (node_map t) (node_map c.merge_siblings.new.tree) c.args.siblings.right c.args.siblings.parent c.args.addr c.merge_siblings.result)
    c.in-None.ensures.unchanged
    (c.merge_siblings.ensures.above c.args.siblings.right
    (subst (λ (t : TreeState _ _). AreAdjacent (node_map t) c.args.siblings c.args.siblings.right c.args.addr) (sym c.in-None.ensures.unchanged) c.requires.adjacent))

pub returns-in-None-clause-rest : goal.returns-in-None-clause-rest
returns-in-None-clause-rest g c = subst (λ (t : TreeState _ _). KeepsRest t c.merge_siblings.new.tree) c.in-None.ensures.unchanged c.merge_siblings.ensures.merges.rest
