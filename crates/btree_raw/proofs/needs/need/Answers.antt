use Rattle.btree_raw.proofs.Common.{◌∙◌, rules}
use Rattle.btree_raw.proofs.NeedLemmas.{need-split_need, need-counting}
use Rattle.btree_raw.proofs.needs.need.Goals as goal

pub split_need-requires : goal.split_need-requires
split_need-requires g c = need-counting g.K.Ord.cmp c.args.tree.now c.args.leaf c.requires.sound (search rules) c.requires.used

pub returns-clause-value : goal.returns-clause-value
returns-clause-value g c = c.split_need.ensures.value ∙ need-split_need g.K.Ord.cmp c.args.tree.now c.args.leaf c.requires.sound c.requires.used
