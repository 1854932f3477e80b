use Rattle.btree_map.proofs.Common.{item_addresses_of, entry_front, index-within}
use Rattle.btree_map.proofs.EditingLemmas.{at-back, at-place, at-valid, end-place}
use Rattle.btree_map.proofs.cursor.editing.EntriesMut.gap.Goals as goal

pub returns-in-Some-clause-valid : goal.returns-in-Some-clause-valid
returns-in-Some-clause-valid g c =
    let now = c.args.self.now in
    at-valid now.map.now now.first (entry_front now) now.first_stands c.in-Some.at c.in-Some.is

pub returns-in-Some-clause-back : goal.returns-in-Some-clause-back
returns-in-Some-clause-back g c =
    let now = c.args.self.now in
    at-back now.map.now now.first (entry_front now) now.first_stands c.in-Some.at c.in-Some.is

pub returns-in-Some-clause-has : goal.returns-in-Some-clause-has
returns-in-Some-clause-has g c =
    let now = c.args.self.now in
    at-place now.map.now now.first (entry_front now) now.first_stands c.in-Some.at c.in-Some.is
    g.met.K.Ord.total c.tell_well_formed.ensures.well_formed

pub returns-in-None-clause-has : goal.returns-in-None-clause-has
returns-in-None-clause-has g c =
    let now = c.args.self.now in
    end-place now.map.now now.first (entry_front now) now.first_stands
    c.in-None.is (index-within (item_addresses_of now.map.now) now.first) c.last_valid_address.result c.last_valid_address.ensures
