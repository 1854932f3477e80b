use Rattle.btree_raw.proofs.Common.{refl}
use Rattle.std.specs.FinMap as map
use Rattle.btree_raw.proofs.LastLemmas.{same-state}
use Rattle.btree_raw.proofs.ResultLemmas.{err-on, ok-both, ok-on}
use Rattle.btree_raw.proofs.SingleNodeLemmas.{here-at, loses-first}
use Rattle.btree_raw.proofs.sibling_steps.take_first.Goals as goal

pub node_mut-requires : goal.node_mut-requires
node_mut-requires g c = (c.tell_fits.ensures, c.requires)

pub pop_left-requires : goal.pop_left-requires
pop_left-requires g c = c.tell_fits.ensures

pub returns-clause-taken : goal.returns-clause-taken
returns-clause-taken g c =
    ok-both c.pop_left.result
    (λ r kind is. record {
      nodes =
          loses-first c.args.tree.now.nodes c.args.id c.node_mut.result.now c.node_mut.ensures.value
          (map.insert c.args.tree.now.nodes c.args.id c.pop_left.new.self) c.pop_left.new.self refl r.0 r.1 kind is;
      rest = record { rest = refl };
    })
    c.pop_left.ensures.child c.pop_left.ensures.taken

pub returns-clause-spare : goal.returns-clause-spare
returns-clause-spare g c =
    let here = here-at c.args.tree.now.nodes c.args.id c.node_mut.result.now c.node_mut.ensures.value in
    ok-on c.pop_left.result (λ r spare. rw here spare) c.pop_left.ensures.spare

pub returns-clause-short : goal.returns-clause-short
returns-clause-short g c =
    let here = here-at c.args.tree.now.nodes c.args.id c.node_mut.result.now c.node_mut.ensures.value in
    err-on c.pop_left.result (λ short. rw here short.0) c.pop_left.ensures.short

pub returns-clause-unchanged : goal.returns-clause-unchanged
returns-clause-unchanged g c =
    err-on c.pop_left.result
    (λ short. same-state c.args.tree.now c.args.id c.node_mut.result.now c.pop_left.new.self c.node_mut.ensures.value short.1)
    c.pop_left.ensures.short
