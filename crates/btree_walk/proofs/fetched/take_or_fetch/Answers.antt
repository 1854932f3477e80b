use Rattle.btree_walk.proofs.Common.{◌≡◌, ◌-◌, Some, length, sym}
use Rattle.std.specs.FinMap as map
use Rattle.btree_walk.proofs.FetchedLemmas.{all-get, all-take}
use Rattle.btree_walk.proofs.fetched.take_or_fetch.Goals as goal

pub returns-then-last-id-clause-value : goal.returns-then-last-id-clause-value
returns-then-last-id-clause-value g c =
    let last : map.get c.args.tree.now.nodes c.in-Some.last ≡ Some c.in-Some.node.now =
    all-get _ c.args.fetched.now (length c.args.fetched.now - 1) (c.in-Some.last, c.in-Some.node) (sym c.in-Some.ensures.answer) c.requires.fetched in
    rw (← c.if-last-id.true) last

pub returns-then-last-id-clause-fetched : goal.returns-then-last-id-clause-fetched
returns-then-last-id-clause-fetched g c = rw c.pop.ensures.after (all-take _ (length c.args.fetched.now - 1) c.args.fetched.now c.requires.fetched)

pub returns-clause-fetched : goal.returns-clause-fetched
returns-clause-fetched g c = rw c.pop.ensures.after (all-take _ (length c.args.fetched.now - 1) c.args.fetched.now c.requires.fetched)

pub node-requires : goal.node-requires
node-requires g c = (c.tell_fits.ensures, c.requires.here)

pub returns-clause-value : goal.returns-clause-value
returns-clause-value g c = c.node.ensures
