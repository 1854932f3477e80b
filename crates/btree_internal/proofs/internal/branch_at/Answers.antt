use Rattle.btree_internal.proofs.Common.{common_steps, arith, ◌∙◌, ap, sym}
use Rattle.btree_item.proofs.StoreLemmas.{is_some-copied}
use Rattle.std.specs.Option.{option_copied}
use Rattle.btree_internal.proofs.internal.branch_at.Goals as goal

pub get-requires : goal.get-requires
get-requires g c = grind (arith, common_steps) steps 300000

pub returns : goal.returns
returns g c = sym c.get.ensures ∙ ap option_copied c.unwrap.ensures

pub unwrap-requires : goal.unwrap-requires
unwrap-requires g c = is_some-copied c.get.result c.args.branches.now c.args.index c.get.ensures c.requires
