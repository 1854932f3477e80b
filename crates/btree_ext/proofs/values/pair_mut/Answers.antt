use Rattle.btree_ext.proofs.Common.{refl, sym, ap, ◌∙◌, Some, view}
use Rattle.std.specs.Option.{option_copied_mut}
use Rattle.btree_ext.proofs.ExchangeLemmas.{item-here_of, occupied-some, occupied-used, written, written-exchanged}
use Rattle.btree_ext.proofs.values.pair_mut.Goals as goal

pub node_mut-requires : goal.node_mut-requires
node_mut-requires g c = (c.tell_fits.ensures, occupied-used c.args.tree.now (view c.addr.inside) (rw (← c.addr.view_is) at c.requires.occupied))

pub returns : goal.returns
returns g c = rw (← c.addr.view_is) (
  (refl, written g.K.Ord.cmp g.met.K.Ord.total c.args.tree.now (view c.addr.inside) c.requires.tree c.node_mut.result.now c.node_mut.ensures.value c.in-Some.item.now c.in-Some.ensures.value),
  record {
    writes_back = tt;
    pair =
        item-here_of g.K.Ord.cmp g.met.K.Ord.total c.args.tree.now (view c.addr.inside) c.requires.tree c.node_mut.result.now c.node_mut.ensures.value c.in-Some.item.now c.in-Some.ensures.value
        ∙ sym (ap Some c.key_and_value.ensures.pair);
    exchanged =
        written-exchanged g.K.Ord.cmp g.met.K.Ord.total c.args.tree.now (view c.addr.inside) c.requires.tree c.node_mut.result.now c.node_mut.ensures.value c.in-Some.item.now c.in-Some.ensures.value
        c.key_and_value.result.1.now (ap (λ p. p.1) c.key_and_value.ensures.pair);
  },
)

pub item_mut-requires : goal.item_mut-requires
item_mut-requires g c = c.tell_fits.ensures

pub unreachable-requires : goal.unreachable-requires
unreachable-requires g c =
    occupied-some c.args.tree.now (view c.addr.inside) c.node_mut.result.now c.node_mut.ensures.value (rw (← c.addr.view_is) at c.requires.occupied) (sym (ap option_copied_mut c.in-None.is) ∙ c.item_mut.follows)
