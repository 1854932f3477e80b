use Rattle.btree_session.proofs.Common.{◌≤◌, ◌∷◌, ◌++◌, [], length, map, decimal, vec_capacity}
use Rattle.btree_session.specs.Answer.{bracketed}
use Rattle.btree_session.proofs.Printing.{Printed, behind}
use Rattle.btree_session.proofs.question.push_leaf.Given as goal

abbrev pub invariant-loop-item : goal.invariant-loop-item
invariant-loop-item l = record {
  short : length l.before ≤ 1;
  grown : vec_capacity l.fn.text ≤ vec_capacity l.text;
  printed : Printed l.fn.text.items l.text.items (behind l.before (map (λ pair. decimal pair.0) l.item-iterator) ++ 41 ∷ []) (bracketed (map (λ pair. decimal pair.0) l.leaf.items));
}
