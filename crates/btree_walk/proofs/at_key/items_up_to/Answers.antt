use Rattle.btree_walk.proofs.Common.{arith, place_of, view_of, children_of, items_of}
use Rattle.btree_walk.proofs.AtKeyLemmas.{below-some, up_to-err, up_to-ok}
use Rattle.btree_walk.proofs.at_key.items_up_to.Goals as goal

pub unwrap-requires : goal.unwrap-requires
unwrap-requires g c =
    below-some (place_of g.K.Ord.cmp c.args.key.now (items_of (view_of c.args.node.now))) (children_of (view_of c.args.node.now)) c.in-Ok.offset
    c.in-Ok.ensures.value

pub returns-in-Ok-clause-value : goal.returns-in-Ok-clause-value
returns-in-Ok-clause-value g c =
    up_to-ok (place_of g.K.Ord.cmp c.args.key.now (items_of (view_of c.args.node.now))) (children_of (view_of c.args.node.now)) c.in-Ok.offset
    c.unwrap.result c.in-Ok.ensures.value c.unwrap.ensures.value

pub returns-in-Err-clause-value : goal.returns-in-Err-clause-value
returns-in-Err-clause-value g c =
    up_to-err (place_of g.K.Ord.cmp c.args.key.now (items_of (view_of c.args.node.now))) (children_of (view_of c.args.node.now)) c.in-Err.gap
    c.in-Err.ensures.value

pub offset_of-requires : goal.offset_of-requires
offset_of-requires g c = (assumption, c.requires)

pub returns-in-Ok-clause-within : goal.returns-in-Ok-clause-within
returns-in-Ok-clause-within g c = let low = rw c.unwrap.ensures.value at c.in-Ok.ensures.within in omega (arith, low)

pub returns-in-Err-clause-within : goal.returns-in-Err-clause-within
returns-in-Err-clause-within g c = c.in-Err.ensures.within
