use Rattle.btree_item.proofs.query.RefStrQueryString.is_after.Goals as goal

pub returns : goal.returns
returns g c = rw c.as_str.ensures.value at c.lt.ensures
