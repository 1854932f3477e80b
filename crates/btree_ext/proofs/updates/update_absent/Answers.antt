use Rattle.btree_ext.proofs.Common.{common_steps, arith, rules}
use Rattle.btree_ext.proofs.LimitLemmas.{either-within, ran-gap-within, refused-within}
use Rattle.btree_ext.proofs.updates.update_absent.Goals as goal

pub returns-then-limit-len-clause-updated :
    goal.returns-then-limit-len-clause-updated
returns-then-limit-len-clause-updated g c = search rules steps 200000

pub returns-then-limit-len-clause-returned :
    goal.returns-then-limit-len-clause-returned
returns-then-limit-len-clause-returned g c = search rules steps 200000

pub returns-then-limit-len-clause-refused :
    goal.returns-then-limit-len-clause-refused
returns-then-limit-len-clause-refused g c = grind (arith, common_steps) steps 300000

pub update_more-requires-clause-some : goal.update_more-requires-clause-some
update_more-requires-clause-some g c = grind (arith, common_steps) steps 300000

pub update_more-requires-clause-room : goal.update_more-requires-clause-room
update_more-requires-clause-room g c = grind (arith, common_steps) steps 300000

pub returns-in-None-clause-bounded : goal.returns-in-None-clause-bounded
returns-in-None-clause-bounded g c =
    either-within g.K.Ord.cmp c.args.tree.now c.update_first.new.tree c.update_first.result c.update_first.ensures.updated c.update_first.ensures.refused
    (λ t is within. ran-gap-within g.K.Ord.cmp c.args.tree.now c.update_first.new.tree (goal.F-post g c.args.action) c.args.key c.args.gap t is within)
    (λ r is within. refused-within g.K.Ord.cmp c.args.tree.now c.update_first.new.tree g.C.NodesMut.MayRefuse c.args.gap.id r.cause is within)

pub returns-in-Some-clause-bounded : goal.returns-in-Some-clause-bounded
returns-in-Some-clause-bounded g c =
    either-within g.K.Ord.cmp c.args.tree.now c.update_more.new.tree c.update_more.result c.update_more.ensures.updated c.update_more.ensures.refused
    (λ t is within. ran-gap-within g.K.Ord.cmp c.args.tree.now c.update_more.new.tree (goal.F-post g c.args.action) c.args.key c.args.gap t is within)
    (λ r is within. refused-within g.K.Ord.cmp c.args.tree.now c.update_more.new.tree g.C.NodesMut.MayRefuse c.args.gap.id r.cause is within)
