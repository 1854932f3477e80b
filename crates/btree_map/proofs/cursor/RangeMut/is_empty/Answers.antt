use Rattle.btree_map.proofs.Common.{ap, not}
use Rattle.btree_map.proofs.ListedItems.{counted}
use Rattle.btree_map.proofs.RangeSteps.{none-left, told-none}
use Rattle.btree_map.proofs.cursor.RangeMut.is_empty.Goals as goal

pub returns-clause-places : goal.returns-clause-places
returns-clause-places g c = ap not c.args.self.now.ordered

pub returns-clause-none : goal.returns-clause-none
returns-clause-none g c =
    let now = c.args.self.now in
    let long = counted now.map.now in
    (none-left now, told-none now long)
