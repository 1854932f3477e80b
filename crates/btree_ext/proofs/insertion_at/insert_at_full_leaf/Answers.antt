use Rattle.btree_ext.proofs.Common.{inl, IfErr-weaker, IfOk-weaker, leaf-same}
use Rattle.btree_ext.proofs.InsertAtLemmas.{gap-at-leaf, inserts-at}
use Rattle.btree_ext.proofs.RefusalLemmas.{refused-at}
use Rattle.btree_ext.proofs.LimitLemmas.{either-within, inserted-within, refused-within}
use Rattle.btree_ext.proofs.insertion_at.insert_at_full_leaf.Goals as goal

pub need_above-count-requires-clause-full : goal.need_above-count-requires-clause-full
need_above-count-requires-clause-full g c = let full = rw (← c.addr.view_is) at c.requires.full in full.full

pub need_above-count-requires-clause-parent : goal.need_above-count-requires-clause-parent
need_above-count-requires-clause-parent g c = let full = rw (← c.addr.view_is) at c.requires.full in full.named

pub insert_and_split-requires-clause-gap : goal.insert_and_split-requires-clause-gap
insert_and_split-requires-clause-gap g c =
    let here = leaf-same g.K.Ord.cmp g.met.K.Ord.total c.args.tree.now c.requires.tree c.args.addr c.requires.valid (inl c.requires.full.leaf) in
    gap-at-leaf g.K.Ord.cmp g.met.K.Ord.total c.args.tree.now c.requires.tree c.args.item c.args.addr c.requires.fits
    c.args.addr here c.requires.back

pub insert_and_split-requires-clause-enough : goal.insert_and_split-requires-clause-enough
insert_and_split-requires-clause-enough g c = rw (← c.addr.view_is) c.need_above-count.ensures.value

pub returns-clause-inserted : goal.returns-clause-inserted
returns-clause-inserted g c =
    let here = leaf-same g.K.Ord.cmp g.met.K.Ord.total c.args.tree.now c.requires.tree c.args.addr c.requires.valid (inl c.requires.full.leaf) in
    IfOk-weaker c.insert_and_split.result _ _
    (inserts-at g.K.Ord.cmp g.met.K.Ord.total c.args.tree.now c.requires.tree c.args.item c.args.addr c.requires.fits
    c.args.addr here c.insert_and_split.new.tree)
    c.insert_and_split.ensures.inserted

pub returns-clause-refused : goal.returns-clause-refused
returns-clause-refused g c =
    let here = leaf-same g.K.Ord.cmp g.met.K.Ord.total c.args.tree.now c.requires.tree c.args.addr c.requires.valid (inl c.requires.full.leaf) in
    IfErr-weaker c.insert_and_split.result _ _
    (λ r. refused-at g.K.Ord.cmp c.args.tree.now c.requires.tree c.insert_and_split.new.tree c.args.addr c.args.addr here r.cause)
    c.insert_and_split.ensures.refused

pub returns-clause-bounded : goal.returns-clause-bounded
returns-clause-bounded g c =
    either-within g.K.Ord.cmp c.args.tree.now c.insert_and_split.new.tree c.insert_and_split.result c.insert_and_split.ensures.inserted c.insert_and_split.ensures.refused
    (λ b is within. inserted-within g.K.Ord.cmp c.args.tree.now c.insert_and_split.new.tree c.args.addr b c.args.item is)
    (λ r is within. refused-within g.K.Ord.cmp c.args.tree.now c.insert_and_split.new.tree g.C.NodesMut.MayRefuse c.args.addr.id r.cause is within)
