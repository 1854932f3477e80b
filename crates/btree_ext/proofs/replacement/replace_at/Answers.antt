use Rattle.btree_ext.proofs.Common.{Some, ◌∙◌, ap, sym, view}
use Rattle.std.specs.Option.{option_copied_mut}
use Rattle.btree_ext.proofs.ExchangeLemmas.{exchanges-at, occupied-some, occupied-used, stood-at}
use Rattle.btree_ext.proofs.ReplaceLemmas.{pair-exchanged}
use Rattle.btree_ext.proofs.replacement.replace_at.Goals as goal

pub node_mut-requires : goal.node_mut-requires
node_mut-requires g c = (c.tell_fits.ensures, occupied-used c.args.tree.now (view c.addr.inside) (rw (← c.addr.view_is) at c.requires.replaces.occupied))

pub unreachable-requires : goal.unreachable-requires
unreachable-requires g c =
    occupied-some c.args.tree.now (view c.addr.inside) c.node_mut.result.now c.node_mut.ensures.value (rw (← c.addr.view_is) at c.requires.replaces.occupied) (sym (ap option_copied_mut c.in-None.is) ∙ c.item_mut.follows)

pub returns-clause-old : goal.returns-clause-old
returns-clause-old g c =
    rw (← c.addr.view_is) (stood-at g.K.Ord.cmp g.met.K.Ord.total c.args.tree.now _ (view c.addr.inside) c.in-Some.item.now (c.args.key, c.args.value) c.requires.tree
    (exchanges-at c.args.tree.now (view c.addr.inside) c.node_mut.result.now c.node_mut.ensures.value c.in-Some.item.now (c.args.key, c.args.value) c.set.new.self c.set.ensures.after c.in-Some.ensures.value)
    ∙ ap Some (sym c.set.ensures.answer))

pub returns-clause-exchanged : goal.returns-clause-exchanged
returns-clause-exchanged g c =
    rw (← c.addr.view_is) (pair-exchanged g.K.Ord.cmp g.met.K.Ord.total c.args.tree.now _ (view c.addr.inside) c.in-Some.item.now c.args.key c.args.value c.requires.tree (rw (← c.addr.view_is) at c.requires.replaces)
    (exchanges-at c.args.tree.now (view c.addr.inside) c.node_mut.result.now c.node_mut.ensures.value c.in-Some.item.now (c.args.key, c.args.value) c.set.new.self c.set.ensures.after c.in-Some.ensures.value))

pub item_mut-requires : goal.item_mut-requires
item_mut-requires g c = c.tell_fits.ensures
