use Rattle.btree_internal.proofs.Common.{arith, ap, ◌∙◌}
use Rattle.std.specs.Option.{option_copied}
use Rattle.btree_internal.proofs.SeparatorLemmas.{key-after, key-before, no-key-before}
use Rattle.btree_internal.proofs.internal.InternalNode.separators.Goals as goal
use Rattle.btree_internal.proofs.internal.InternalNode.separators.Goals.{then-index-eq0, else-index-eq0}

pub returns-clause-before : goal.returns-clause-before
returns-clause-before g c = elim c.if-index-eq0.branch [
  | then-index-eq0 w ↦
      let first = w.if-index-eq0.true in
      no-key-before c.args.self.now c.args.index _ (omega arith) (ap option_copied w.before-is)
  | else-index-eq0 w ↦
      let later = w.if-index-eq0.false in
      key-before c.args.self.now _ c.self.inside.first c.self.inside.branches c.self.view_is c.args.index _ (omega arith) (ap option_copied w.before-is ∙ w.key_in-before.ensures)
]

pub returns-clause-after : goal.returns-clause-after
returns-clause-after g c = key-after c.args.self.now _ c.self.inside.first c.self.inside.branches c.self.view_is c.args.index _ c.key_in.ensures
