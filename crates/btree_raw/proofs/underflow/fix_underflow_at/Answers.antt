use Rattle.btree_raw.proofs.Common.{subst, sym, Borrows, MergesNode, TreeState, KeepsRest, node_map, MergesSiblings, AreAdjacent, EndsUnderflow, FitTogether, PassesUnderflowUp, Underflows}
use Rattle.btree_raw.specs.Underflow.{BorrowsFromLeft, MergesWithLeft}
use Rattle.btree_raw.proofs.UnderflowLemmas.{is-child, is-short, before-there, are-after, after-adjacent, after-left, after-up, after-few, are-before, as-after, as-before, before-right, low-after, none-after, right-borrows, right-merges}
use Rattle.btree_raw.proofs.underflow.fix_underflow_at.Goals as goal

pub siblings-before-requires : goal.siblings-before-requires
siblings-before-requires g c = is-child (node_map c.args.tree.now) c.args.id c.args.parent c.args.addr c.requires.followed c.requires.under

pub unwrap-requires : goal.unwrap-requires
unwrap-requires g c = before-there (node_map c.args.tree.now) c.args.id c.args.parent c.args.addr c.requires.followed c.requires.under c.siblings-before.result.0 c.siblings-before.result.1 c.siblings-before.ensures c.in_default.is

pub fix_underflow_with_left-requires-clause-adjacent : goal.fix_underflow_with_left-requires-clause-adjacent
fix_underflow_with_left-requires-clause-adjacent g c = are-before (node_map c.args.tree.now) c.args.id c.args.parent c.args.addr c.requires.followed c.requires.under c.siblings-before.result.0 c.siblings-before.result.1 c.siblings-before.ensures c.unwrap.result c.unwrap.ensures

pub fix_underflow_with_left-requires-clause-short : goal.fix_underflow_with_left-requires-clause-short
fix_underflow_with_left-requires-clause-short g c = rw (before-right (node_map c.args.tree.now) c.args.id c.args.parent c.args.addr c.requires.followed c.requires.under c.siblings-before.result.0 c.siblings-before.result.1 c.siblings-before.ensures c.unwrap.result c.unwrap.ensures) (is-short (node_map c.args.tree.now) c.args.id c.args.parent c.args.addr c.requires.followed c.requires.under c.args.count c.requires.count c.requires.short)

pub returns-in_default-clause-borrows : goal.returns-in_default-clause-borrows
returns-in_default-clause-borrows g c = λ yes. as-before (node_map c.args.tree.now) c.args.id c.args.parent c.args.addr c.requires.followed c.requires.under c.siblings-before.result.0 c.siblings-before.result.1 c.siblings-before.ensures c.unwrap.result c.unwrap.ensures (Borrows (node_map c.args.tree.now) (node_map c.fix_underflow_with_left.new.tree)) (c.fix_underflow_with_left.ensures.borrows yes (none-after (node_map c.args.tree.now) c.args.id c.args.parent c.args.addr c.requires.followed c.requires.under c.siblings-before.result.0 c.siblings-before.result.1 c.siblings-before.ensures c.unwrap.result c.unwrap.ensures c.in_default.is))

pub returns-in_default-clause-merges : goal.returns-in_default-clause-merges
returns-in_default-clause-merges g c = λ yes. as-before (node_map c.args.tree.now) c.args.id c.args.parent c.args.addr c.requires.followed c.requires.under c.siblings-before.result.0 c.siblings-before.result.1 c.siblings-before.ensures c.unwrap.result c.unwrap.ensures (MergesNode (node_map c.args.tree.now) (node_map c.fix_underflow_with_left.new.tree)) (c.fix_underflow_with_left.ensures.merges yes (none-after (node_map c.args.tree.now) c.args.id c.args.parent c.args.addr c.requires.followed c.requires.under c.siblings-before.result.0 c.siblings-before.result.1 c.siblings-before.ensures c.unwrap.result c.unwrap.ensures c.in_default.is))

pub returns-in_default-clause-here : goal.returns-in_default-clause-here
returns-in_default-clause-here g c = λ yes. as-before (node_map c.args.tree.now) c.args.id c.args.parent c.args.addr c.requires.followed c.requires.under c.siblings-before.result.0 c.siblings-before.result.1 c.siblings-before.ensures c.unwrap.result c.unwrap.ensures (λ q n. EndsUnderflow (node_map c.args.tree.now) (node_map c.fix_underflow_with_left.new.tree) n c.args.addr c.fix_underflow_with_left.result.0) (c.fix_underflow_with_left.ensures.here yes)

pub returns-in_default-clause-above : goal.returns-in_default-clause-above
returns-in_default-clause-above g c = λ yes. as-before (node_map c.args.tree.now) c.args.id c.args.parent c.args.addr c.requires.followed c.requires.under c.siblings-before.result.0 c.siblings-before.result.1 c.siblings-before.ensures c.unwrap.result c.unwrap.ensures (λ q n. PassesUnderflowUp (node_map c.args.tree.now) (node_map c.fix_underflow_with_left.new.tree) n q c.args.addr c.fix_underflow_with_left.result.0) (c.fix_underflow_with_left.ensures.above yes)

pub borrow_from_right-requires-clause-adjacent : goal.borrow_from_right-requires-clause-adjacent
borrow_from_right-requires-clause-adjacent g c =
    after-adjacent (node_map c.args.tree.now) c.args.id c.args.parent c.args.addr c.requires.followed c.requires.under c.siblings-before.result.0 c.siblings-before.result.1 c.siblings-before.ensures c.in-Some.after c.in-Some.is

pub borrow_from_right-requires-clause-short : goal.borrow_from_right-requires-clause-short
borrow_from_right-requires-clause-short g c = rw (after-left (node_map c.args.tree.now) c.args.id c.args.parent c.args.addr c.requires.followed c.requires.under c.siblings-before.result.0 c.siblings-before.result.1 c.siblings-before.ensures c.in-Some.after c.in-Some.is) (is-short (node_map c.args.tree.now) c.args.id c.args.parent c.args.addr c.requires.followed c.requires.under c.args.count c.requires.count c.requires.short)

pub borrow_from_right-requires-clause-count : goal.borrow_from_right-requires-clause-count
borrow_from_right-requires-clause-count g c = rw (after-left (node_map c.args.tree.now) c.args.id c.args.parent c.args.addr c.requires.followed c.requires.under c.siblings-before.result.0 c.siblings-before.result.1 c.siblings-before.ensures c.in-Some.after c.in-Some.is) c.requires.count

pub returns-in-Some-borrow_from_right-clause-borrows : goal.returns-in-Some-borrow_from_right-clause-borrows
returns-in-Some-borrow_from_right-clause-borrows g c = λ yes. right-borrows (node_map c.args.tree.now) c.args.id c.args.parent c.args.addr c.requires.followed c.requires.under c.siblings-before.result.0 c.siblings-before.result.1 c.siblings-before.ensures c.in-Some.after c.in-Some.is (node_map c.borrow_from_right.new.tree) c.in-Some-borrow_from_right.ensures.spare c.in-Some-borrow_from_right.ensures.rotates.nodes

pub returns-in-Some-borrow_from_right-clause-here : goal.returns-in-Some-borrow_from_right-clause-here
returns-in-Some-borrow_from_right-clause-here g c = λ yes.
    as-after (node_map c.args.tree.now) c.args.id c.args.parent c.args.addr c.requires.followed c.requires.under c.siblings-before.result.0 c.siblings-before.result.1 c.siblings-before.ensures c.in-Some.after c.in-Some.is (λ q n. EndsUnderflow (node_map c.args.tree.now) (node_map c.borrow_from_right.new.tree) n c.args.addr c.in-Some-borrow_from_right.at)
    c.in-Some-borrow_from_right.ensures.here

pub returns-in-Some-borrow_from_right-clause-rest : goal.returns-in-Some-borrow_from_right-clause-rest
returns-in-Some-borrow_from_right-clause-rest g c = c.in-Some-borrow_from_right.ensures.rotates.rest

pub returns-in-Some-borrow_from_right-clause-back : goal.returns-in-Some-borrow_from_right-clause-back
returns-in-Some-borrow_from_right-clause-back g c = λ is.
    c.in-Some-borrow_from_right.ensures.back is

pub fix_underflow_with_left-requires-in-Some-before-clause-adjacent : goal.fix_underflow_with_left-requires-in-Some-before-clause-adjacent
fix_underflow_with_left-requires-in-Some-before-clause-adjacent g c =
    subst (λ (t : TreeState _ _). AreAdjacent (node_map t) c.in-Some-before.before c.in-Some-before.before.right c.args.addr) (sym c.in_default-borrow_from_right.ensures.unchanged)
    (are-before (node_map c.args.tree.now) c.args.id c.args.parent c.args.addr c.requires.followed c.requires.under c.siblings-before.result.0 c.siblings-before.result.1 c.siblings-before.ensures c.in-Some-before.before c.in-Some-before.is)

pub fix_underflow_with_left-requires-in-Some-before-clause-short : goal.fix_underflow_with_left-requires-in-Some-before-clause-short
fix_underflow_with_left-requires-in-Some-before-clause-short g c =
    subst (λ (t : TreeState _ _). Underflows (node_map t) c.in-Some-before.before.right) (sym c.in_default-borrow_from_right.ensures.unchanged)
    (rw (before-right (node_map c.args.tree.now) c.args.id c.args.parent c.args.addr c.requires.followed c.requires.under c.siblings-before.result.0 c.siblings-before.result.1 c.siblings-before.ensures c.in-Some-before.before c.in-Some-before.is) (is-short (node_map c.args.tree.now) c.args.id c.args.parent c.args.addr c.requires.followed c.requires.under c.args.count c.requires.count c.requires.short))

pub returns-in-Some-before-clause-borrows : goal.returns-in-Some-before-clause-borrows
returns-in-Some-before-clause-borrows g c = λ yes.
    as-before (node_map c.args.tree.now) c.args.id c.args.parent c.args.addr c.requires.followed c.requires.under c.siblings-before.result.0 c.siblings-before.result.1 c.siblings-before.ensures c.in-Some-before.before c.in-Some-before.is (Borrows (node_map c.args.tree.now) (node_map c.fix_underflow_with_left-in-Some-before.new.tree))
    (subst (λ (t : TreeState _ _). BorrowsFromLeft t c.fix_underflow_with_left-in-Some-before.new.tree c.in-Some-before.before) c.in_default-borrow_from_right.ensures.unchanged (c.fix_underflow_with_left-in-Some-before.ensures.borrows yes)
    (low-after (node_map c.args.tree.now) c.args.id c.args.parent c.args.addr c.requires.followed c.requires.under c.siblings-before.result.0 c.siblings-before.result.1 c.siblings-before.ensures c.in-Some-before.before c.in-Some-before.is c.in-Some.after c.in-Some.is c.in_default-borrow_from_right.ensures.none))

pub returns-in-Some-before-clause-merges : goal.returns-in-Some-before-clause-merges
returns-in-Some-before-clause-merges g c = λ yes.
    as-before (node_map c.args.tree.now) c.args.id c.args.parent c.args.addr c.requires.followed c.requires.under c.siblings-before.result.0 c.siblings-before.result.1 c.siblings-before.ensures c.in-Some-before.before c.in-Some-before.is (MergesNode (node_map c.args.tree.now) (node_map c.fix_underflow_with_left-in-Some-before.new.tree))
    (subst (λ (t : TreeState _ _). MergesWithLeft t c.fix_underflow_with_left-in-Some-before.new.tree c.in-Some-before.before) c.in_default-borrow_from_right.ensures.unchanged (c.fix_underflow_with_left-in-Some-before.ensures.merges yes)
    (low-after (node_map c.args.tree.now) c.args.id c.args.parent c.args.addr c.requires.followed c.requires.under c.siblings-before.result.0 c.siblings-before.result.1 c.siblings-before.ensures c.in-Some-before.before c.in-Some-before.is c.in-Some.after c.in-Some.is c.in_default-borrow_from_right.ensures.none))

pub returns-in-Some-before-clause-here : goal.returns-in-Some-before-clause-here
returns-in-Some-before-clause-here g c = λ yes.
    as-before (node_map c.args.tree.now) c.args.id c.args.parent c.args.addr c.requires.followed c.requires.under c.siblings-before.result.0 c.siblings-before.result.1 c.siblings-before.ensures c.in-Some-before.before c.in-Some-before.is (λ q n. EndsUnderflow (node_map c.args.tree.now) (node_map c.fix_underflow_with_left-in-Some-before.new.tree) n c.args.addr c.fix_underflow_with_left-in-Some-before.result.0)
    (subst (λ (t : TreeState _ _). EndsUnderflow (node_map t) (node_map c.fix_underflow_with_left-in-Some-before.new.tree) c.in-Some-before.before.right c.args.addr c.fix_underflow_with_left-in-Some-before.result.0)
    c.in_default-borrow_from_right.ensures.unchanged (c.fix_underflow_with_left-in-Some-before.ensures.here yes))

pub returns-in-Some-before-clause-above : goal.returns-in-Some-before-clause-above
returns-in-Some-before-clause-above g c = λ yes.
    as-before (node_map c.args.tree.now) c.args.id c.args.parent c.args.addr c.requires.followed c.requires.under c.siblings-before.result.0 c.siblings-before.result.1 c.siblings-before.ensures c.in-Some-before.before c.in-Some-before.is (λ q n. PassesUnderflowUp (node_map c.args.tree.now) (node_map c.fix_underflow_with_left-in-Some-before.new.tree) n q c.args.addr c.fix_underflow_with_left-in-Some-before.result.0)
    (subst (λ (t : TreeState _ _). PassesUnderflowUp (node_map t) (node_map c.fix_underflow_with_left-in-Some-before.new.tree) c.in-Some-before.before.right c.in-Some-before.before.parent c.args.addr c.fix_underflow_with_left-in-Some-before.result.0)
    c.in_default-borrow_from_right.ensures.unchanged (c.fix_underflow_with_left-in-Some-before.ensures.above yes))

pub returns-in-Some-before-clause-rest : goal.returns-in-Some-before-clause-rest
returns-in-Some-before-clause-rest g c = subst (λ (t : TreeState _ _). KeepsRest t c.fix_underflow_with_left-in-Some-before.new.tree) c.in_default-borrow_from_right.ensures.unchanged c.fix_underflow_with_left-in-Some-before.ensures.rest

pub merge_siblings-requires-clause-adjacent : goal.merge_siblings-requires-clause-adjacent
merge_siblings-requires-clause-adjacent g c = (
  c.args.id,
  subst (λ (t : TreeState _ _). AreAdjacent (node_map t) c.in-Some.after c.args.id c.args.addr) (sym c.in_default-borrow_from_right.ensures.unchanged) (are-after (node_map c.args.tree.now) c.args.id c.args.parent c.args.addr c.requires.followed c.requires.under c.siblings-before.result.0 c.siblings-before.result.1 c.siblings-before.ensures c.in-Some.after c.in-Some.is),
)

pub merge_siblings-requires-clause-few : goal.merge_siblings-requires-clause-few
merge_siblings-requires-clause-few g c =
    subst (λ (t : TreeState _ _). FitTogether (node_map t) c.in-Some.after) (sym c.in_default-borrow_from_right.ensures.unchanged)
    (after-few (node_map c.args.tree.now) c.args.id c.args.parent c.args.addr c.requires.followed c.requires.under c.siblings-before.result.0 c.siblings-before.result.1 c.siblings-before.ensures c.in-Some.after c.in-Some.is c.args.count c.in_default-borrow_from_right.ensures.none c.requires.count c.requires.short)

pub returns-in-None-clause-merges : goal.returns-in-None-clause-merges
returns-in-None-clause-merges g c = λ yes.
    right-merges (node_map c.args.tree.now) c.args.id c.args.parent c.args.addr c.requires.followed c.requires.under c.siblings-before.result.0 c.siblings-before.result.1 c.siblings-before.ensures c.in-Some.after c.in-Some.is (node_map c.merge_siblings.new.tree) c.in_default-borrow_from_right.ensures.none c.in-None.is
    (subst (λ (t : TreeState _ _). MergesSiblings (node_map t) (node_map c.merge_siblings.new.tree) c.in-Some.after) c.in_default-borrow_from_right.ensures.unchanged
    c.merge_siblings.ensures.merges.nodes)

pub returns-in-None-clause-above : goal.returns-in-None-clause-above
returns-in-None-clause-above g c = λ yes.
    subst (λ q. PassesUnderflowUp (node_map c.args.tree.now) (node_map c.merge_siblings.new.tree) c.args.id q c.args.addr c.merge_siblings.result) (after-up (node_map c.args.tree.now) c.args.id c.args.parent c.args.addr c.requires.followed c.requires.under c.siblings-before.result.0 c.siblings-before.result.1 c.siblings-before.ensures c.in-Some.after c.in-Some.is)
    (subst (λ (t : TreeState _ _). PassesUnderflowUp (node_map t) (node_map c.merge_siblings.new.tree) c.args.id c.in-Some.after.parent c.args.addr c.merge_siblings.result)
    c.in_default-borrow_from_right.ensures.unchanged
    (c.merge_siblings.ensures.above c.args.id
    (subst (λ (t : TreeState _ _). AreAdjacent (node_map t) c.in-Some.after c.args.id c.args.addr) (sym c.in_default-borrow_from_right.ensures.unchanged) (are-after (node_map c.args.tree.now) c.args.id c.args.parent c.args.addr c.requires.followed c.requires.under c.siblings-before.result.0 c.siblings-before.result.1 c.siblings-before.ensures c.in-Some.after c.in-Some.is))))

pub returns-in-None-clause-rest : goal.returns-in-None-clause-rest
returns-in-None-clause-rest g c = subst (λ (t : TreeState _ _). KeepsRest t c.merge_siblings.new.tree) c.in_default-borrow_from_right.ensures.unchanged c.merge_siblings.ensures.merges.rest
