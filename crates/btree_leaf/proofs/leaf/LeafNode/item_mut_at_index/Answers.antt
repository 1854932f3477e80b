use borrow.Follows.Closed.{read_of}
use Rattle.std.specs.Option.{ghost_name_of, option_copied_mut}
use Rattle.btree_leaf.proofs.Common.{node_of}
use Rattle.btree_leaf.proofs.LeafLemmas.{item-read, item-written}
use Rattle.btree_leaf.proofs.leaf.LeafNode.item_mut_at_index.Goals as goal

pub returns : goal.returns
returns g c =
    let written = item-written c.args.self.now (node_of c.self.inside.parent) c.self.inside.items c.self.view_is c.args.index in (
      λ j. read_of (ghost_name_of c.get_mut.result) (λ x. written x j) (c.self.view_is j),
      record {
        writes_back = tt;
        value = item-read c.args.self.now (node_of c.self.inside.parent) c.self.inside.items c.self.view_is c.args.index (option_copied_mut c.get_mut.result) c.get_mut.ensures.value;
      },
    )
