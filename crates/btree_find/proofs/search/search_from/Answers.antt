use Rattle.btree_find.proofs.Common.{arith}
use Rattle.btree_find.proofs.CountLemmas.{counts-begin, counts-down, counts-hit, counts-miss}
use Rattle.btree_find.proofs.SearchLemmas.{search-begins, node-used, node-ascends, hit, down, miss}
use Rattle.btree_find.proofs.search.search_from.Goals as goal

pub loop-offset-init : goal.loop-offset-init
loop-offset-init g c = record {
  searches = search-begins g.Q.Query.compare c.args.key.now g.met.K.Ord.total g.met.Q.Query.cuts c.args.tree.now c.requires.tree c.args.top c.requires.used;
  counts = counts-begin g.Q.Query.compare c.args.key.now c.args.tree.now c.args.top _;
  ticks = omega arith;
}

pub node-requires : goal.node-requires
node-requires g c = (c.tell_fits.ensures, node-used g.Q.Query.compare c.args.key.now g.met.K.Ord.total g.met.Q.Query.cuts c.args.tree.now c.requires.tree c.args.top c.loop-offset.id c.loop-offset.invariant.searches)

pub offset_of_counted-requires : goal.offset_of_counted-requires
offset_of_counted-requires g c = (c.tell_fits.ensures, node-ascends g.Q.Query.compare c.args.key.now g.met.K.Ord.total g.met.Q.Query.cuts c.args.tree.now c.requires.tree c.args.top c.loop-offset.id c.loop-offset.invariant.searches c.node.result.now c.node.ensures.value)

pub returns-in-Ok-clause-found : goal.returns-in-Ok-clause-found
returns-in-Ok-clause-found g c = hit g.Q.Query.compare c.args.key.now g.met.K.Ord.total g.met.Q.Query.cuts c.args.tree.now c.requires.tree c.args.top c.loop-offset.id c.loop-offset.invariant.searches c.node.result.now c.node.ensures.value c.in-Ok.offset c.in-Ok.ensures.value c.new.result c.new.ensures

pub loop-offset-smaller : goal.loop-offset-smaller
loop-offset-smaller g c = (down g.Q.Query.compare c.args.key.now g.met.K.Ord.total g.met.Q.Query.cuts c.args.tree.now c.requires.tree c.args.top c.loop-offset.id c.loop-offset.invariant.searches c.node.result.now c.node.ensures.value c.in-Err-default-Some.field-0-0 c.in-Err-default-Some.child (rw (← c.in-Err-default-Some.field-0-1-is) c.in-Err-default-Some.ensures.value)).1

pub loop-offset-preserved : goal.loop-offset-preserved
loop-offset-preserved g c =
    let d = down g.Q.Query.compare c.args.key.now g.met.K.Ord.total g.met.Q.Query.cuts c.args.tree.now c.requires.tree c.args.top c.loop-offset.id c.loop-offset.invariant.searches c.node.result.now c.node.ensures.value c.in-Err-default-Some.field-0-0 c.in-Err-default-Some.child (rw (← c.in-Err-default-Some.field-0-1-is) c.in-Err-default-Some.ensures.value) in
    let t = c.offset_of_counted.ensures.ticks in
    let i = c.loop-offset.invariant.ticks in
    let l = d.1 in
    record {
      searches = d.0;
      counts = counts-down g.Q.Query.compare c.args.key.now c.args.tree.now c.args.top c.loop-offset.id _ _ c.loop-offset.invariant.counts c.node.result.now c.node.ensures.value _ c.offset_of_counted.ensures.counted c.in-Err-default-Some.field-0-0 c.in-Err-default-Some.child (rw (← c.in-Err-default-Some.field-0-1-is) c.in-Err-default-Some.ensures.value) l;
      ticks = omega arith;
    }

pub returns-in-Err-default-None-clause-found : goal.returns-in-Err-default-None-clause-found
returns-in-Err-default-None-clause-found g c = miss g.Q.Query.compare c.args.key.now g.met.K.Ord.total g.met.Q.Query.cuts c.args.tree.now c.requires.tree c.args.top c.loop-offset.id c.loop-offset.invariant.searches c.node.result.now c.node.ensures.value c.in-Err-default-None.index (rw (← c.in-Err-default-None.field-0-1-is) c.in-Err-default-None.ensures.value) c.from.result c.from.ensures c.in-Err-default-None.ensures.within c.new-in-Err-default-None.result c.new-in-Err-default-None.ensures

pub returns-in-Ok-clause-counted : goal.returns-in-Ok-clause-counted
returns-in-Ok-clause-counted g c = counts-hit g.Q.Query.compare c.args.key.now c.args.tree.now c.args.top c.loop-offset.id _ _ c.loop-offset.invariant.counts c.node.result.now c.node.ensures.value _ c.in-Ok.ensures.counted c.in-Ok.offset c.in-Ok.ensures.value

pub returns-in-Err-default-None-clause-counted : goal.returns-in-Err-default-None-clause-counted
returns-in-Err-default-None-clause-counted g c = counts-miss g.Q.Query.compare c.args.key.now c.args.tree.now c.args.top c.loop-offset.id _ _ c.loop-offset.invariant.counts c.node.result.now c.node.ensures.value _ c.in-Err-default-None.ensures.counted c.in-Err-default-None.index (rw (← c.in-Err-default-None.field-0-1-is) c.in-Err-default-None.ensures.value)
