use Rattle.btree_ext.proofs.Common.{◌∙◌, inl, refl, sym, ap, option_map, found-from_Err}
use Rattle.btree_find.specs.Fits.{pairs_below}
use Rattle.btree_ext.proofs.KeyWrittenLemmas.{exchanges-at_key, key_written-tree, written-at_key}
use Rattle.btree_ext.proofs.values.get_mut_in.Goals as goal

pub returns-in-Ok : goal.returns-in-Ok
returns-in-Ok g c =
    let f = c.in-Ok.ensures in
    let was = c.value_mut.result.now in
    let at = exchanges-at_key g.K.Ord.cmp g.met.K.Ord.total c.args.key.now c.args.tree.now c.requires.tree c.in-Ok.addr f.found in (
      λ i. inl (
        c.value_mut.result.ghost_name,
        λ w. written-at_key g.K.Ord.cmp g.met.K.Ord.total c.args.key.now c.args.tree.now c.requires.tree c.in-Ok.addr f.found w i,
      ),
      record {
        writes_back = tt;
        value = sym (ap (option_map (λ x. x.1)) (f.pair ∙ (c.value_mut.ensures.exchanged was).had));
        tree = key_written-tree g.K.Ord.cmp g.met.K.Ord.total g.K.Ord.cmp c.args.key.now c.args.tree.now c.requires.tree;
        exchanged = λ w. at was w (c.value_mut.ensures.exchanged w);
      },
    )

pub returns-in-Err : goal.returns-in-Err
returns-in-Err g c =
    let gap = c.in-Err.ensures in (
      refl,
      record {
        writes_back = tt;
        value = sym (ap (option_map (λ x. x.1)) (found-from_Err g.K.Ord.cmp c.args.key.now (pairs_below c.args.tree.now c.args.top) gap.index gap.is));
        tree = key_written-tree g.K.Ord.cmp g.met.K.Ord.total g.K.Ord.cmp c.args.key.now c.args.tree.now c.requires.tree;
        exchanged = tt;
      },
    )
