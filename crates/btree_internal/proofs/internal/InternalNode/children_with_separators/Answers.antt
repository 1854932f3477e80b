use Rattle.btree_internal.proofs.Common.{None, map, ap, ◌∙◌, branch_pair}
use Rattle.btree_view.specs.Separators.{between_items}
use Rattle.btree_internal.proofs.internal.InternalNode.children_with_separators.Goals as goal

pub returns : goal.returns
returns g c =
    let branches = ap (map branch_pair) c.iter.ensures ∙ c.branches.ensures in
    λ j. between_items None (c.first_child_id.ensures j) (branches j)
