use Rattle.btree_raw.proofs.Common.{refl}
use Rattle.std.specs.FinMap as map
use Rattle.btree_raw.proofs.LastLemmas.{same-state}
use Rattle.btree_raw.proofs.SingleNodeLemmas.{here-at, loses-last, popped-count}
use Rattle.btree_raw.proofs.sibling_steps.take_last.Goals as goal

pub node_mut-requires : goal.node_mut-requires
node_mut-requires g c = (c.tell_fits.ensures, c.requires)

pub pop_right-requires : goal.pop_right-requires
pop_right-requires g c = c.tell_fits.ensures

pub returns-in-Ok-clause-taken : goal.returns-in-Ok-clause-taken
returns-in-Ok-clause-taken g c = record {
  nodes =
      loses-last c.args.tree.now.nodes c.args.id c.node_mut.result.now c.node_mut.ensures.value
      (map.insert c.args.tree.now.nodes c.args.id c.pop_right.new.self) c.pop_right.new.self refl c.in-Ok.popped.1 c.in-Ok.popped.2
      c.in-Ok.ensures.child c.in-Ok.ensures.taken;
  rest = record { rest = refl };
}

pub returns-in-Ok-clause-count : goal.returns-in-Ok-clause-count
returns-in-Ok-clause-count g c =
    popped-count c.args.tree.now.nodes c.args.id c.node_mut.result.now c.node_mut.ensures.value
    (map.insert c.args.tree.now.nodes c.args.id c.pop_right.new.self) c.pop_right.new.self refl c.in-Ok.popped.1 c.in-Ok.popped.2
    c.in-Ok.ensures.child c.in-Ok.ensures.taken c.in-Ok.popped.0 c.in-Ok.ensures.offset c.unwrap.result c.unwrap.ensures.value

pub returns-in-Ok-clause-spare : goal.returns-in-Ok-clause-spare
returns-in-Ok-clause-spare g c =
    rw (here-at c.args.tree.now.nodes c.args.id c.node_mut.result.now c.node_mut.ensures.value) c.in-Ok.ensures.spare

pub returns-in-Err-clause-short : goal.returns-in-Err-clause-short
returns-in-Err-clause-short g c =
    rw (here-at c.args.tree.now.nodes c.args.id c.node_mut.result.now c.node_mut.ensures.value) c.in-Err.ensures.short.0

pub returns-in-Err-clause-unchanged : goal.returns-in-Err-clause-unchanged
returns-in-Err-clause-unchanged g c =
    same-state c.args.tree.now c.args.id c.node_mut.result.now c.pop_right.new.self c.node_mut.ensures.value c.in-Err.ensures.short.1
