use Rattle.btree_ext.proofs.Common.{refl, ap, found_value, node_map}
use Rattle.std.specs.FinMap as map
use Rattle.btree_laws.specs.TreeState.{pairs_under}
use Rattle.btree_ext.proofs.KeyWrittenLemmas.{key_written-tree}
use Rattle.btree_ext.proofs.values.get_mut.Goals as goal

pub returns-in-None : goal.returns-in-None
returns-in-None g c =
    let s = c.args.tree.now in (
      refl,
      record {
        writes_back = tt;
        value = ap (λ t. found_value g.K.Ord.cmp c.args.key.now (pairs_under (node_map s) t (map.len s.nodes))) c.in-None.ensures;
        tree = key_written-tree g.K.Ord.cmp g.met.K.Ord.total g.K.Ord.cmp c.args.key.now s c.requires;
        exchanged = tt;
      },
    )
