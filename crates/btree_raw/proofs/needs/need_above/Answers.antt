use Rattle.btree_raw.proofs.Common.{◌∙◌, rules}
use Rattle.btree_raw.proofs.NeedLemmas.{need-split_need, need-counting}
use Rattle.btree_raw.proofs.StateLemmas.{used-here}
use Rattle.btree_raw.proofs.needs.need_above.Goals as goal

pub split_need_above-requires-clause-counting : goal.split_need_above-requires-clause-counting
split_need_above-requires-clause-counting g c =
    need-counting g.K.Ord.cmp c.args.tree.now c.args.leaf c.requires.sound (search rules)
    (used-here c.args.tree.now.nodes c.args.leaf c.requires.full.node c.requires.full.here)

pub returns-clause-value : goal.returns-clause-value
returns-clause-value g c =
    c.split_need_above.ensures.value
    ∙ need-split_need g.K.Ord.cmp c.args.tree.now c.args.leaf c.requires.sound
    (used-here c.args.tree.now.nodes c.args.leaf c.requires.full.node c.requires.full.here)
