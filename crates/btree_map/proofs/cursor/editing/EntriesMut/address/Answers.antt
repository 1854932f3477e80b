use Rattle.btree_map.proofs.Common.{◌≡◌, ◌∙◌, ap, arith, length, slice_get, item_addresses_of, pairs_of, entry_front, passed_of, index-within}
use Rattle.std.proofs.Common.{length-take}
use Rattle.btree_map.proofs.ListedItems.{counted}
use Rattle.btree_map.proofs.cursor.editing.EntriesMut.address.Goals as goal

pub returns : goal.returns
returns g c =
    let now = c.args.self.now in
    let list = item_addresses_of now.map.now in
    let place : entry_front now ≡ length (passed_of now) =
    omega (
      arith,
      counted now.map.now,
      index-within list now.first,
      length-take (entry_front now) (pairs_of now.map.now),
    ) in
    now.first_stands ∙ ap (slice_get list) place
