use Rattle.btree_item.proofs.Common.{◌∙◌}
use Rattle.std.specs.Cmp.Lexicographic.{texts_ties}
use Rattle.std.specs.Prelude.{string_bytes}
use Rattle.btree_item.proofs.query.RefStrQueryString.is_at.Goals as goal

pub returns : goal.returns
returns g c = rw c.as_str.ensures.value at c.eq.ensures ∙ texts_ties (string_bytes c.args.key.now) c.args.self.now.now
