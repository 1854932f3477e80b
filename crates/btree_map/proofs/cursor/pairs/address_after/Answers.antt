use Rattle.btree_map.proofs.CursorLemmas.{listed-after}
use Rattle.btree_map.proofs.ListedItems.{listed-occupied, listed-valid}
use Rattle.btree_map.proofs.cursor.pairs.address_after.Goals as goal

pub next_item_address-requires : goal.next_item_address-requires
next_item_address-requires g c =
    listed-valid c.args.map.now c.args.addr c.requires.0 c.requires.1

pub returns-clause-occupied : goal.returns-clause-occupied
returns-clause-occupied g c =
    listed-occupied c.args.map.now c.args.addr c.requires.0 c.requires.1

pub returns-clause-after : goal.returns-clause-after
returns-clause-after g c place listed =
    listed-after c.args.map.now c.args.addr place listed
    c.next_item_address.result c.next_item_address.ensures
