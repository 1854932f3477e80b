use Rattle.btree_find.proofs.Common.{Option, ℕ, ◌∙◌, ap, arith, sym, view}
use Rattle.btree_find.proofs.LeafLemmas.{leaf-first-below, leaf-here, leaf-last-below, leaf-nowhere}
use Rattle.btree_find.proofs.PlaceLemmas.{node-used, within-node}
use Rattle.btree_find.proofs.PreviousLemmas.{below-used, few-last}
use Rattle.btree_find.proofs.WalkLemmas.{address-is}
use Rattle.btree_find.proofs.navigation.leaf_address.Goals as goal

pub returns-in_default : goal.returns-in_default
returns-in_default g c = leaf-nowhere g.K.Ord.cmp g.met.K.Ord.total c.args.tree.now c.requires.tree c.args.addr c.requires.valid (sym c.root_id.ensures ∙ c.in_default.is)

pub leftmost_leaf-requires-clause-used : goal.leftmost_leaf-requires-clause-used
leftmost_leaf-requires-clause-used g c = node-used g.K.Ord.cmp g.met.K.Ord.total c.args.tree.now c.requires.tree c.in-Some._root (sym c.root_id.ensures ∙ c.in-Some.is) (view c.addr.inside) (rw (← c.addr.view_is) at c.requires.valid)

pub returns-in_default-value : goal.returns-in_default-value
returns-in_default-value g c =
    rw (← c.addr.view_is) (leaf-first-below g.K.Ord.cmp g.met.K.Ord.total c.args.tree.now c.requires.tree (view c.addr.inside) (rw (← c.addr.view_is) at c.requires.valid) c.in-Some._root (sym c.root_id.ensures ∙ c.in-Some.is) (sym c.value.ensures.value ∙ c.in_default-value.is) c.leftmost_leaf.result c.leftmost_leaf.ensures c.new.result
    (c.new.ensures ∙ ap (λ (o : Option ℕ). record { id = c.leftmost_leaf.result; offset = o }) c.before-in_default-value.ensures))

pub node-requires : goal.node-requires
node-requires g c = (c.tell_fits.ensures, node-used g.K.Ord.cmp g.met.K.Ord.total c.args.tree.now c.requires.tree c.in-Some._root (sym c.root_id.ensures ∙ c.in-Some.is) (view c.addr.inside) (rw (← c.addr.view_is) at c.requires.valid))

pub returns-in_default-child_id_opt : goal.returns-in_default-child_id_opt
returns-in_default-child_id_opt g c =
    rw (← c.addr.view_is) (leaf-here g.K.Ord.cmp g.met.K.Ord.total c.args.tree.now c.requires.tree (view c.addr.inside) (rw (← c.addr.view_is) at c.requires.valid) c.in-Some._root (sym c.root_id.ensures ∙ c.in-Some.is) c.node.result.now c.node.ensures.value c.in-Some-value.offset (within-node g.K.Ord.cmp g.met.K.Ord.total c.args.tree.now c.requires.tree c.in-Some._root (sym c.root_id.ensures ∙ c.in-Some.is) (view c.addr.inside) (rw (← c.addr.view_is) at c.requires.valid) c.node.result.now c.node.ensures.value c.in-Some-value.offset (sym c.value.ensures.value ∙ c.in-Some-value.is))
    (sym c.in_default-child_id_opt.is ∙ c.child_id_opt.ensures))

pub rightmost_leaf-leaf-requires-clause-used : goal.rightmost_leaf-leaf-requires-clause-used
rightmost_leaf-leaf-requires-clause-used g c = below-used g.K.Ord.cmp g.met.K.Ord.total c.args.tree.now c.requires.tree c.addr.inside.id c.in-Some-value.offset c.node.result.now c.node.ensures.value c.in-Some-child_id_opt.child (sym c.in-Some-child_id_opt.is ∙ c.child_id_opt.ensures)

pub returns : goal.returns
returns g c =
    rw (← c.addr.view_is) (let h = few-last g.K.Ord.cmp g.met.K.Ord.total c.args.tree.now c.requires.tree c.in-Some-child_id_opt.child c.rightmost_leaf-leaf.result c.rightmost_leaf-leaf.ensures in
    leaf-last-below g.K.Ord.cmp g.met.K.Ord.total c.args.tree.now c.requires.tree (view c.addr.inside) (rw (← c.addr.view_is) at c.requires.valid) c.in-Some._root (sym c.root_id.ensures ∙ c.in-Some.is) c.node.result.now c.node.ensures.value c.in-Some-value.offset c.in-Some-child_id_opt.child (sym c.in-Some-child_id_opt.is ∙ c.child_id_opt.ensures) (sym c.value.ensures.value ∙ c.in-Some-value.is) c.rightmost_leaf-leaf.result c.rightmost_leaf-leaf.ensures c.new-2.result
    (address-is c.new-2.result c.rightmost_leaf-leaf.result.0 c.rightmost_leaf-leaf.result.1 c.from.result (omega arith) c.from.ensures c.new-2.ensures))

pub child_id_opt-requires : goal.child_id_opt-requires
child_id_opt-requires g c = c.tell_fits.ensures
