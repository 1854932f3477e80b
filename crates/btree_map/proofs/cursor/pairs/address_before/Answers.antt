use Rattle.btree_map.proofs.CursorLemmas.{listed-before}
use Rattle.btree_map.proofs.ListedItems.{listed-occupied, listed-valid}
use Rattle.btree_map.proofs.cursor.pairs.address_before.Goals as goal

pub previous_item_address-requires : goal.previous_item_address-requires
previous_item_address-requires g c =
    listed-valid c.args.map.now c.args.addr c.requires.0 c.requires.1

pub returns-clause-occupied : goal.returns-clause-occupied
returns-clause-occupied g c =
    listed-occupied c.args.map.now c.args.addr c.requires.0 c.requires.1

pub returns-clause-before : goal.returns-clause-before
returns-clause-before g c place listed =
    listed-before c.args.map.now c.args.addr place listed
    c.previous_item_address.result c.previous_item_address.ensures
