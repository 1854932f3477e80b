use Rattle.btree_internal.proofs.Common.{common_steps, ◌∙◌, ◌++◌, ◌∷◌, [], ap, arith, rules, internal}
use Rattle.btree_internal.proofs.ChangeLemmas.{kept, pairs}
use Rattle.btree_internal.proofs.internal.InternalNode.binary.Goals as goal

pub new-branches-requires : goal.new-branches-requires
new-branches-requires g c = grind (arith, common_steps) steps 300000

pub push-requires : goal.push-requires
push-requires g c = grind (arith, common_steps) steps 300000

pub unwrap_or-requires : goal.unwrap_or-requires
unwrap_or-requires g c κs = search rules steps 200000

pub returns : goal.returns
returns g c =
    let branches = c.push.ensures ∙ ap (λ l. l ++ record { item = c.args.median; child = c.args.right_id } ∷ []) c.new-branches.ensures in
    λ j. internal (kept c.args.parent c.unwrap_or.result c.unwrap_or.ensures j) c.args.left_id (pairs (branches j))
