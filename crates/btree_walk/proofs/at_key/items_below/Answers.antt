use Rattle.btree_walk.proofs.Common.{place_of, view_of, children_of, items_of}
use Rattle.btree_walk.proofs.AtKeyLemmas.{below-err, below-ok, below-some}
use Rattle.btree_walk.proofs.at_key.items_below.Goals as goal

pub unwrap-requires : goal.unwrap-requires
unwrap-requires g c =
    below-some (place_of g.K.Ord.cmp c.args.key.now (items_of (view_of c.args.node.now))) (children_of (view_of c.args.node.now)) c.in-Ok.offset
    c.in-Ok.ensures.value

pub returns-in-Ok : goal.returns-in-Ok
returns-in-Ok g c =
    below-ok (place_of g.K.Ord.cmp c.args.key.now (items_of (view_of c.args.node.now))) (children_of (view_of c.args.node.now)) c.in-Ok.offset
    c.unwrap.result c.in-Ok.ensures.value c.unwrap.ensures.value

pub returns-in-Err : goal.returns-in-Err
returns-in-Err g c =
    below-err (place_of g.K.Ord.cmp c.args.key.now (items_of (view_of c.args.node.now))) (children_of (view_of c.args.node.now)) c.in-Err.gap
    c.in-Err.ensures.value

pub offset_of-requires : goal.offset_of-requires
offset_of-requires g c = (assumption, c.requires)
