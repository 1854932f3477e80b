use Rattle.btree_raw.proofs.Common.{node_map}
use Rattle.btree_raw.proofs.UpwardLemmas.{can-cut, upward-start}
use Rattle.btree_raw.proofs.splits.add_and_split.Goals as goal

pub add_and_cut-cut-requires-clause-can : goal.add_and_cut-cut-requires-clause-can
add_and_cut-cut-requires-clause-can g c = c.requires.can

pub add_and_cut-cut-requires-clause-can_cut : goal.add_and_cut-cut-requires-clause-can_cut
add_and_cut-cut-requires-clause-can_cut g c = λ added adds.
    can-cut _ (node_map added) (node_map added) added.root c.args.id c.args.id c.args.claims.now.items c.args.claims.now.items c.args.addr c.args.addr
    (c.requires.splitting added adds) (upward-start _ (node_map added) added.root c.args.id c.args.claims.now.items c.args.addr c.requires.numbers)

pub split_from-requires : goal.split_from-requires
split_from-requires g c =
    let a = c.add_and_cut-cut.ensures in
    record { begun = (a.added, c.args.claims.now.items, record { splitting = c.requires.splitting a.added a.adds; low = c.requires.numbers; cuts = a.cuts }) }

pub returns-clause-split : goal.returns-clause-split
returns-clause-split g c =
    let a = c.add_and_cut-cut.ensures in
    record {
      added = a.added;
      adds = a.adds;
      splits = c.split_from.ensures.split a.added c.args.claims.now.items
          (record { splitting = c.requires.splitting a.added a.adds; low = c.requires.numbers; cuts = a.cuts });
    }
