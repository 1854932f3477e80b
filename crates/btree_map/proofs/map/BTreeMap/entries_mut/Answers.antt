use Rattle.btree_map.proofs.Common.{drop, take, pairs_of}
use Rattle.btree_map.proofs.map.BTreeMap.entries_mut.Goals as goal

pub at-requires-clause-stands : goal.at-requires-clause-stands
at-requires-clause-stands g c = c.first_item_address-first.ensures.item.listed

pub returns-clause-passed : goal.returns-clause-passed
returns-clause-passed g c i = take (c.at.ensures.front i) (pairs_of (c.at.ensures.unchanged i))

pub returns-clause-left : goal.returns-clause-left
returns-clause-left g c i = drop (c.at.ensures.front i) (pairs_of (c.at.ensures.unchanged i))
