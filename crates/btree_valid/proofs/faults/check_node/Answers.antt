use Rattle.std.proofs.lemmas.Option.{none-some}
use Rattle.btree_valid.proofs.Common.{◌∙◌, option_copied, sym, view_of}
use Rattle.btree_valid.proofs.FoundLemmas.{checked}
use Rattle.btree_valid.proofs.VerdictLemmas.{node-ok}
use Rattle.btree_valid.proofs.faults.check_node.Goals as goal

pub returns-in-Some-clause-passes : goal.returns-in-Some-clause-passes
returns-in-Some-clause-passes g c = rw c.in-Some.is c.check_off_by_one.ensures

pub returns-in-None-clause-passes : goal.returns-in-None-clause-passes
returns-in-None-clause-passes g c = rw c.in-None.is (
  λ ok. checked g.K.Ord.cmp g.met.K.Ord.total c.args.spot.now.id c.args.spot.now.parent (option_copied c.args.spot.now.min) (option_copied c.args.spot.now.max) (view_of c.args.node.now) c.validate.result ok c.validate.ensures,
  λ p. node-ok g.K.Ord.cmp (option_copied c.args.spot.now.min) (option_copied c.args.spot.now.max) c.args.spot.now.parent c.args.spot.now.id (view_of c.args.node.now) p c.validate.result c.validate.ensures,
)

pub returns-in-Some-clause-verdict : goal.returns-in-Some-clause-verdict
returns-in-Some-clause-verdict g c = λ none. absurd (none-some _ (sym none ∙ c.in-Some.is))

pub returns-in-None-clause-verdict : goal.returns-in-None-clause-verdict
returns-in-None-clause-verdict g c = λ none. c.validate.ensures

pub check_off_by_one-requires : goal.check_off_by_one-requires
check_off_by_one-requires g c = search

pub validate-requires : goal.validate-requires
validate-requires g c = search
