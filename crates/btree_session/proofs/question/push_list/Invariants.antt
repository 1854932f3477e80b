use Rattle.btree_session.proofs.Common.{◌≤◌, ◌++◌, [], length, map, vec_capacity, pairs_of, pair_text}
use Rattle.btree_session.specs.Answer.{list_text}
use Rattle.btree_session.proofs.Printing.{Printed, behind}
use Rattle.btree_session.proofs.question.push_list.Given as goal

abbrev pub invariant-loop-key : goal.invariant-loop-key
invariant-loop-key g l = record {
  short : length l.before ≤ 1;
  grown : vec_capacity l.fn.text ≤ vec_capacity l.text;
  printed : Printed l.fn.text.items l.text.items (behind l.before (map pair_text l.key-iterator) ++ []) (list_text (pairs_of l.map));
}
