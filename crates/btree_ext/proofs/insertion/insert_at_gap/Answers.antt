use Rattle.btree_ext.proofs.Common.{common_steps, arith, rules}
use Rattle.btree_ext.proofs.LimitLemmas.{either-within, inserted-within, refused-within}
use Rattle.btree_ext.proofs.insertion.insert_at_gap.Goals as goal

pub tell_fits-requires : goal.tell_fits-requires
tell_fits-requires g c κs = search rules steps 200000

pub len-requires : goal.len-requires
len-requires g c κs = search rules steps 200000

pub refused-requires : goal.refused-requires
refused-requires g c κs = search rules steps 200000

pub root_id-requires : goal.root_id-requires
root_id-requires g c κs = search rules steps 200000

pub insert_first-requires-clause-tree : goal.insert_first-requires-clause-tree
insert_first-requires-clause-tree g c = search rules steps 200000

pub insert_first-requires-clause-empty : goal.insert_first-requires-clause-empty
insert_first-requires-clause-empty g c = search rules steps 200000

pub insert_more-requires-clause-tree : goal.insert_more-requires-clause-tree
insert_more-requires-clause-tree g c = search rules steps 200000

pub insert_more-requires-clause-some : goal.insert_more-requires-clause-some
insert_more-requires-clause-some g c = grind (arith, common_steps) steps 300000

pub insert_more-requires-clause-gap : goal.insert_more-requires-clause-gap
insert_more-requires-clause-gap g c = search rules steps 200000

pub insert_more-requires-clause-room : goal.insert_more-requires-clause-room
insert_more-requires-clause-room g c = grind (arith, common_steps) steps 300000

pub returns-in-None-clause-inserted : goal.returns-in-None-clause-inserted
returns-in-None-clause-inserted g c = search rules steps 200000

pub returns-in-None-clause-returned : goal.returns-in-None-clause-returned
returns-in-None-clause-returned g c = search rules steps 200000

pub returns-in-None-clause-refused : goal.returns-in-None-clause-refused
returns-in-None-clause-refused g c = search rules steps 200000

pub returns-in-Some-clause-inserted : goal.returns-in-Some-clause-inserted
returns-in-Some-clause-inserted g c = search rules steps 200000

pub returns-in-Some-clause-returned : goal.returns-in-Some-clause-returned
returns-in-Some-clause-returned g c = search rules steps 200000

pub returns-in-Some-clause-refused : goal.returns-in-Some-clause-refused
returns-in-Some-clause-refused g c = search rules steps 200000

pub returns-in-None-clause-bounded : goal.returns-in-None-clause-bounded
returns-in-None-clause-bounded g c =
    either-within g.K.Ord.cmp c.args.tree.now c.insert_first.new.tree c.insert_first.result c.insert_first.ensures.inserted c.insert_first.ensures.refused
    (λ b is within. inserted-within g.K.Ord.cmp c.args.tree.now c.insert_first.new.tree c.args.addr b c.args.item is)
    (λ r is within. refused-within g.K.Ord.cmp c.args.tree.now c.insert_first.new.tree g.C.NodesMut.MayRefuse c.args.addr.id r.cause is within)

pub returns-in-Some-clause-bounded : goal.returns-in-Some-clause-bounded
returns-in-Some-clause-bounded g c =
    either-within g.K.Ord.cmp c.args.tree.now c.insert_more.new.tree c.insert_more.result c.insert_more.ensures.inserted c.insert_more.ensures.refused
    (λ b is within. inserted-within g.K.Ord.cmp c.args.tree.now c.insert_more.new.tree c.args.addr b c.args.item is)
    (λ r is within. refused-within g.K.Ord.cmp c.args.tree.now c.insert_more.new.tree g.C.NodesMut.MayRefuse c.args.addr.id r.cause is within)
