use Rattle.btree_map.proofs.Common.{◌∙◌, entry_front}
use Rattle.btree_map.proofs.EditingLemmas.{at-first, past-first}
use Rattle.btree_map.proofs.cursor.editing.EntriesMut.peek.Goals as goal

pub returns-in_default : goal.returns-in_default
returns-in_default g c =
    let now = c.args.self.now in
    past-first now.map.now now.first (entry_front now) now.first_stands c.in_default.is

pub returns : goal.returns
returns g c =
    let now = c.args.self.now in
    c.item.ensures.value
    ∙ at-first now.map.now now.first (entry_front now) now.first_stands c.in-Some.at c.in-Some.is
