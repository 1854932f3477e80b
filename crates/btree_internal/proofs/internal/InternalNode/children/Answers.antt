use Rattle.btree_internal.proofs.Common.{◌∷◌, map, ap, sym, ◌∙◌}
use Rattle.btree_internal.proofs.BranchLemmas.{children-pairs}
use Rattle.btree_internal.proofs.internal.InternalNode.children.Goals as goal

pub returns : goal.returns
returns g c =
    let rest = ap (map (λ b. b.child)) c.iter.ensures ∙ sym (children-pairs c.branches.result.now) ∙ ap (map (λ b. b.1)) c.branches.ensures in
    λ j. c.first_child_id.ensures j ∷ rest j
