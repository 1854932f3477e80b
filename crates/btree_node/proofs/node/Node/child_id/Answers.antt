use Rattle.btree_node.proofs.Common.{children_of, view_of, rules, ap, ◌∙◌}
use Rattle.std.proofs.lemmas.Option.{slice_get-get_or}
use Rattle.std.proofs.Common.{is_some}
use Rattle.btree_node.proofs.node.Node.child_id.Goals as goal

pub child_id_opt-requires : goal.child_id_opt-requires
child_id_opt-requires g c = assumption

pub returns : goal.returns
returns g c = search rules steps 200000

pub unwrap-requires : goal.unwrap-requires
unwrap-requires g c = ap is_some (c.child_id_opt.ensures ∙ slice_get-get_or (children_of (view_of c.args.self.now)) c.args.index 0 c.requires)
