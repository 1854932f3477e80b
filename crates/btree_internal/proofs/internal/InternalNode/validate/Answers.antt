use Rattle.btree_internal.proofs.Common.{ap, ◌∙◌, internal_view, items_of}
use Rattle.std.proofs.Common.{subst}
use Rattle.std.specs.Map.{keys_of}
use Rattle.std.specs.Option.{option_copied}
use Rattle.btree_internal.proofs.BranchLemmas.{items_are, keys-branches}
use Rattle.btree_internal.proofs.internal.InternalNode.validate.Goals as goal
use Rattle.btree_view.specs.Checks.{IsKeysVerdict}

pub returns : goal.returns
returns g c =
    let keys = keys-branches c.self.inside.branches ∙ ap keys_of (items_are c.args.self.now _ c.self.inside.first c.self.inside.branches c.self.view_is) in
    let cmp = g.K.Ord.cmp in
    let min = option_copied c.args.min in
    let max = option_copied c.args.max in
    subst (λ own. IsKeysVerdict cmp c.args.parent min max own 7 (keys_of (items_of (internal_view c.args.self.now))) c.check_node.result) c.parent.ensures.value
    (subst (λ ks. IsKeysVerdict cmp c.args.parent min max c.parent.result 7 ks c.check_node.result) keys c.check_node.ensures)
