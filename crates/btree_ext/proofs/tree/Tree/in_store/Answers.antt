use Rattle.btree_ext.proofs.Common.{ap, refl, ◌∙◌}
use Rattle.std.specs.FinMap.{empty_of_len}
use Rattle.btree_laws.specs.TreeState.{rootless, unlimited}
use Rattle.btree_ext.proofs.TreeLimitLemmas.{empty-within}
use Rattle.btree_ext.proofs.tree.Tree.in_store.Goals as goal

pub invariant_of-result : goal.invariant_of-result
invariant_of-result g c =
    empty-within g.K.Ord.cmp c.in_store.result (unlimited (g.C.Nodes.refusals c.args.nodes)) (c.in_store.ensures ∙ ap (λ nodes. rootless nodes (unlimited (g.C.Nodes.refusals c.args.nodes))) (empty_of_len _ c.requires.empty))

pub returns-clause-state : goal.returns-clause-state
returns-clause-state g c = rw (c.in_store.ensures, empty_of_len _ c.requires.empty) refl
