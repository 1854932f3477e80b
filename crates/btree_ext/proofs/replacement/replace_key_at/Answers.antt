use Rattle.btree_ext.proofs.Common.{◌∙◌, ap, sym, view}
use Rattle.std.specs.Option.{option_copied_mut}
use Rattle.btree_ext.proofs.ExchangeLemmas.{exchanges-at, occupied-some, occupied-used}
use Rattle.btree_ext.proofs.ReplaceLemmas.{key-exchanged}
use Rattle.btree_ext.proofs.replacement.replace_key_at.Goals as goal

pub node_mut-requires : goal.node_mut-requires
node_mut-requires g c = (c.tell_fits.ensures, occupied-used c.args.tree.now (view c.addr.inside) (rw (← c.addr.view_is) at c.requires.replaces.occupied))

pub unreachable-requires : goal.unreachable-requires
unreachable-requires g c =
    occupied-some c.args.tree.now (view c.addr.inside) c.node_mut.result.now c.node_mut.ensures.value (rw (← c.addr.view_is) at c.requires.replaces.occupied) (sym (ap option_copied_mut c.in-None.is) ∙ c.item_mut.follows)

pub returns : goal.returns
returns g c =
    let old = c.in-Some.item.now in
    rw (← c.addr.view_is, c.set_key.ensures.answer) (key-exchanged g.K.Ord.cmp g.met.K.Ord.total c.args.tree.now _ (view c.addr.inside) old c.args.key c.requires.tree (rw (← c.addr.view_is) at c.requires.replaces)
    (exchanges-at c.args.tree.now (view c.addr.inside) c.node_mut.result.now c.node_mut.ensures.value old (c.args.key, old.1) c.set_key.new.self c.set_key.ensures.after c.in-Some.ensures.value))

pub item_mut-requires : goal.item_mut-requires
item_mut-requires g c = c.tell_fits.ensures
