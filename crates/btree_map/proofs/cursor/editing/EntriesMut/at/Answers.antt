use Rattle.btree_map.proofs.Common.{sym, item_addresses_of}
use Rattle.btree_map.proofs.IndexLemmas.{index-is}
use Rattle.btree_map.proofs.KnownLemmas.{known-one}
use Rattle.btree_map.proofs.RangeStarts.{once}
use Rattle.btree_map.proofs.RangeSteps.{stands-first}
use Rattle.btree_map.proofs.cursor.editing.EntriesMut.at.Goals as goal

pub invariant_of-result : goal.invariant_of-result
invariant_of-result g c =
    let s = c.args.map.now in
    let list = item_addresses_of s in
    let place = index-is list (once g.K.Ord.cmp g.met.K.Ord.total s c.tell_well_formed.ensures.well_formed) c.args.front c.args.first c.requires.stands c.requires.within in
    record {
      first_stands = stands-first list c.args.first c.args.front c.requires.stands;
      counted = known-one c.args.front _ (sym place);
    }

pub returns-clause-front : goal.returns-clause-front
returns-clause-front g c =
    let s = c.args.map.now in
    index-is (item_addresses_of s) (once g.K.Ord.cmp g.met.K.Ord.total s c.tell_well_formed.ensures.well_formed) c.args.front c.args.first c.requires.stands c.requires.within
