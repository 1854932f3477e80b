use Rattle.btree_ext.proofs.Common.{IfErr-weaker, IfOk-weaker}
use Rattle.btree_ext.proofs.InsertAtLemmas.{gap-at-leaf, inserts-at}
use Rattle.btree_ext.proofs.RefusalLemmas.{refused-at}
use Rattle.btree_ext.proofs.insertion_at.insert_by_leaf.Goals as goal

pub insert_at_gap-requires-clause-gap : goal.insert_at_gap-requires-clause-gap
insert_at_gap-requires-clause-gap g c =
    gap-at-leaf g.K.Ord.cmp g.met.K.Ord.total c.args.tree.now c.requires.tree c.args.item c.args.addr c.requires.fits
    c.leaf_address-leaf.result c.leaf_address-leaf.ensures c.requires.back

pub returns-clause-inserted : goal.returns-clause-inserted
returns-clause-inserted g c =
    IfOk-weaker c.insert_at_gap.result _ _
    (inserts-at g.K.Ord.cmp g.met.K.Ord.total c.args.tree.now c.requires.tree c.args.item c.args.addr c.requires.fits
    c.leaf_address-leaf.result c.leaf_address-leaf.ensures c.insert_at_gap.new.tree)
    c.insert_at_gap.ensures.inserted

pub returns-clause-refused : goal.returns-clause-refused
returns-clause-refused g c =
    IfErr-weaker c.insert_at_gap.result _ _
    (λ r. refused-at g.K.Ord.cmp c.args.tree.now c.requires.tree c.insert_at_gap.new.tree c.args.addr
    c.leaf_address-leaf.result c.leaf_address-leaf.ensures r.cause)
    c.insert_at_gap.ensures.refused
