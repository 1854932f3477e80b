use Rattle.btree_raw.proofs.Common.{None, sym, rules, view}
use Rattle.btree_raw.proofs.StateLemmas.{found-occupied}
use Rattle.btree_raw.proofs.raw.RawBTree.item.Goals as goal
use Rattle.btree_laws.proofs.Trees.Stores.{item-some, item-none}

pub returns-in-None-clause-value : goal.returns-in-None-clause-value
returns-in-None-clause-value g c = rw (← c.self.view_is, ← c.addr.view_is) (item-none (g.C.Nodes.content c.self.inside.store) (view c.addr.inside) (sym c.in-None.ensures.value))

pub returns-in-None-clause-occupied : goal.returns-in-None-clause-occupied
returns-in-None-clause-occupied g c = found-occupied c.args.self.now c.args.addr None (returns-in-None-clause-value g c)

pub returns-in-Some-clause-value : goal.returns-in-Some-clause-value
returns-in-Some-clause-value g c =
    rw (← c.self.view_is, ← c.addr.view_is) (item-some (g.C.Nodes.content c.self.inside.store) (view c.addr.inside) c.in-Some.node.now (sym c.in-Some.ensures.value) _ c.item.ensures)

pub returns-in-Some-clause-occupied : goal.returns-in-Some-clause-occupied
returns-in-Some-clause-occupied g c = found-occupied c.args.self.now c.args.addr c.item.result (returns-in-Some-clause-value g c)

pub tell_fits-requires : goal.tell_fits-requires
tell_fits-requires g c κs = search rules steps 200000

pub get-requires : goal.get-requires
get-requires g c = c.tell_fits.ensures

pub item-requires : goal.item-requires
item-requires g c = c.tell_fits.ensures
