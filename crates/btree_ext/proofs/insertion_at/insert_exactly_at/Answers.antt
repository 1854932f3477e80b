use Rattle.btree_ext.proofs.Common.{IfErr-weaker, IfOk-weaker, leaf-same}
use Rattle.btree_ext.proofs.InsertAtLemmas.{gap-at-leaf, inserts-at}
use Rattle.btree_ext.proofs.RefusalLemmas.{refused-at}
use Rattle.btree_ext.proofs.insertion_at.insert_exactly_at.Goals as goal

pub insert_at_gap-requires-clause-gap : goal.insert_at_gap-requires-clause-gap
insert_at_gap-requires-clause-gap g c =
    let here = leaf-same g.K.Ord.cmp g.met.K.Ord.total c.args.tree.now c.requires.tree c.args.addr c.requires.valid c.requires.leaf in
    gap-at-leaf g.K.Ord.cmp g.met.K.Ord.total c.args.tree.now c.requires.tree c.args.item c.args.addr c.requires.fits
    c.args.addr here c.requires.back

pub returns-clause-inserted : goal.returns-clause-inserted
returns-clause-inserted g c =
    let here = leaf-same g.K.Ord.cmp g.met.K.Ord.total c.args.tree.now c.requires.tree c.args.addr c.requires.valid c.requires.leaf in
    IfOk-weaker c.insert_at_gap.result _ _
    (inserts-at g.K.Ord.cmp g.met.K.Ord.total c.args.tree.now c.requires.tree c.args.item c.args.addr c.requires.fits
    c.args.addr here c.insert_at_gap.new.tree)
    c.insert_at_gap.ensures.inserted

pub returns-clause-refused : goal.returns-clause-refused
returns-clause-refused g c =
    let here = leaf-same g.K.Ord.cmp g.met.K.Ord.total c.args.tree.now c.requires.tree c.args.addr c.requires.valid c.requires.leaf in
    IfErr-weaker c.insert_at_gap.result _ _
    (λ r. refused-at g.K.Ord.cmp c.args.tree.now c.requires.tree c.insert_at_gap.new.tree c.args.addr c.args.addr here r.cause)
    c.insert_at_gap.ensures.refused
