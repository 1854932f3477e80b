use Rattle.btree_ext.proofs.Common.{◌∙◌, inl, refl, sym, ap, option_map}
use Rattle.btree_ext.proofs.KeyWrittenLemmas.{exchanges-by, key_written-tree, written-by}
use Rattle.btree_ext.proofs.values.get_mut_by.Goals as goal

pub returns-in-Ok : goal.returns-in-Ok
returns-in-Ok g c =
    let f = c.in-Ok.ensures in
    let s = c.args.tree.now in
    let was = c.value_mut.result.now in (
      λ i. inl (
        c.value_mut.result.ghost_name,
        λ w. written-by g.K.Ord.cmp g.Q.Query.compare g.met.Q.Query.cuts c.args.query.now s c.requires c.in-Ok.addr f w i,
      ),
      record {
        writes_back = tt;
        value = sym (ap (option_map (λ x. x.1)) (sym f.item ∙ (c.value_mut.ensures.exchanged was).had));
        tree = key_written-tree g.K.Ord.cmp g.met.K.Ord.total g.Q.Query.compare c.args.query.now s c.requires;
        exchanged =
            λ w. exchanges-by g.K.Ord.cmp g.Q.Query.compare g.met.Q.Query.cuts c.args.query.now s c.requires c.in-Ok.addr f was w (c.value_mut.ensures.exchanged w);
      },
    )

pub returns-in-Err : goal.returns-in-Err
returns-in-Err g c =
    let gap = c.in-Err.ensures in (
      refl,
      record {
        writes_back = tt;
        value = sym (ap (option_map (λ x. x.1)) gap.absent);
        tree = key_written-tree g.K.Ord.cmp g.met.K.Ord.total g.Q.Query.compare c.args.query.now c.args.tree.now c.requires;
        exchanged = tt;
      },
    )
