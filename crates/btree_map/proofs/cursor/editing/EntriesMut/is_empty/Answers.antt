use Rattle.btree_map.proofs.Common.{entry_front}
use Rattle.btree_map.proofs.EditingLemmas.{none-is, none-left, some-left}
use Rattle.btree_map.proofs.cursor.editing.EntriesMut.is_empty.Goals as goal

pub returns-clause-none : goal.returns-clause-none
returns-clause-none g c =
    let now = c.args.self.now in
    none-left now.map.now now.first (entry_front now) now.first_stands c.is_none.result (none-is c.is_none.result now.first c.is_none.ensures)

pub returns-clause-some : goal.returns-clause-some
returns-clause-some g c =
    let now = c.args.self.now in
    some-left now.map.now now.first (entry_front now) now.first_stands c.is_none.result (none-is c.is_none.result now.first c.is_none.ensures)
