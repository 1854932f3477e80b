use Rattle.btree_session.proofs.Common.{◌-◌, ◌≤◌, vec_capacity, ◌∷◌, ◌++◌, [], views, shape_under}
use Rattle.btree_session.proofs.Printing.{Printed, branches_text}
use Rattle.btree_session.proofs.question.+push_shape.Given as goal

abbrev pub decreases-push_shape : goal.decreases-push_shape
decreases-push_shape g l = l.levels

abbrev pub invariant-loop-branch : goal.invariant-loop-branch
invariant-loop-branch g l = record {
  grown : vec_capacity l.fn.text ≤ vec_capacity l.text;
  printed : Printed l.fn.text.items l.text.items (branches_text (views l.map.nodes) (l.levels - 1) l.branch-iterator ++ 41 ∷ []) (shape_under (views l.map.nodes) l.levels l.id);
}
