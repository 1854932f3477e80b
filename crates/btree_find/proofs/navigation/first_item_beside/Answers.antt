use Rattle.btree_find.proofs.Common.{◌∙◌, arith, sym}
use Rattle.btree_find.proofs.BesideLemmas.{begins-beside, left-used, right-used}
use Rattle.btree_find.proofs.WalkLemmas.{address-is, begins-item}
use Rattle.btree_find.proofs.navigation.first_item_beside.Goals as goal

pub node-requires : goal.node-requires
node-requires g c = (
  c.tell_fits.ensures,
  left-used g.K.Ord.cmp g.met.K.Ord.total c.args.tree.now c.requires.tree c.args.left c.args.right c.requires.beside,
)

pub first_item-requires-clause-used : goal.first_item-requires-clause-used
first_item-requires-clause-used g c =
    right-used g.K.Ord.cmp g.met.K.Ord.total c.args.tree.now c.requires.tree c.args.left c.args.right c.requires.beside

pub returns-in-None : goal.returns-in-None
returns-in-None g c =
    begins-item g.K.Ord.cmp g.met.K.Ord.total c.args.tree.now c.requires.tree c.args.right c.args.right
    (begins-beside g.K.Ord.cmp g.met.K.Ord.total c.args.tree.now c.requires.tree c.args.left c.args.right c.requires.beside c.node.result.now c.node.ensures.value
    (sym c.in-None.is ∙ c.child_id_opt.ensures)) c.new.result
    (address-is c.new.result c.args.right 0 c.from.result (omega arith) c.from.ensures c.new.ensures)

pub child_id_opt-requires : goal.child_id_opt-requires
child_id_opt-requires g c = c.tell_fits.ensures
