use Rattle.btree_map.proofs.Common.{arith, length-drop, item_addresses_of, pairs_of, entry_front, index-within}
use Rattle.btree_map.proofs.ListedItems.{counted}
use Rattle.btree_map.proofs.cursor.editing.EntriesMut.count_passed.Goals as goal

pub returns : goal.returns
returns g c =
    let now = c.args.self.now in
    omega (
      arith,
      c.len.ensures,
      c.count_left.ensures,
      c.saturating_sub.ensures,
      counted now.map.now,
      index-within (item_addresses_of now.map.now) now.first,
      length-drop (entry_front now) (pairs_of now.map.now),
    )
