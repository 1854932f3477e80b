use Rattle.btree_ext.proofs.Common.{subst}
use Rattle.std.proofs.Common.{option_copied}
use Rattle.btree_valid.specs.Positions.{start_spot}
use Rattle.btree_valid.specs.Verdicts.{IsVerdictBelow}
use Rattle.btree_ext.proofs.ext.BTreeExt.validate_node.Goals as goal

pub returns-clause-verdict : goal.returns-clause-verdict
returns-clause-verdict g c =
    subst (λ s. IsVerdictBelow g.K.Ord.cmp s.nodes (start_spot c.args.id c.args.parent (option_copied c.args.min) (option_copied c.args.max)) c.validate_node.result) c.as_raw.ensures.value c.validate_node.ensures.verdict
