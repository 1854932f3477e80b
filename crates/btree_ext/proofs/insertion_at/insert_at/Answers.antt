use Rattle.btree_ext.proofs.Common.{[], inl, refl, sym, ap, ◌∙◌, arith, Kept, same-kept, same-len, leaf-same, view}
use Rattle.btree_raw.proofs.NeedLemmas.{need-split_need}
use Rattle.btree_find.proofs.PlaceLemmas.{node-used, within-node}
use Rattle.btree_ext.proofs.InsertAtLemmas.{can-leaf, gap-at-leaf, inserts-at, rooted}
use Rattle.btree_ext.proofs.MoreLemmas.{leaf-used, more-inserted, none-claimed, unsplit}
use Rattle.btree_ext.proofs.insertion_at.insert_at.Goals as goal

pub unwrap-requires : goal.unwrap-requires
unwrap-requires g c = rw (← c.addr.view_is) at c.requires.back

pub add_item_at_leaf-requires-clause-used : goal.add_item_at_leaf-requires-clause-used
add_item_at_leaf-requires-clause-used g c =
    node-used g.K.Ord.cmp g.met.K.Ord.total c.args.tree.now c.requires.tree c.in-Some._root (sym c.root_id.ensures ∙ c.in-Some.is) (view c.addr.inside) (rw (← c.addr.view_is) at c.requires.valid)

pub add_item_at_leaf-requires-clause-within : goal.add_item_at_leaf-requires-clause-within
add_item_at_leaf-requires-clause-within g c = λ node at.
    within-node g.K.Ord.cmp g.met.K.Ord.total c.args.tree.now c.requires.tree c.in-Some._root (sym c.root_id.ensures ∙ c.in-Some.is) (view c.addr.inside) (rw (← c.addr.view_is) at c.requires.valid) node at
    c.unwrap.result c.unwrap.ensures.value

pub returns-in-Ok-clause-inserted : goal.returns-in-Ok-clause-inserted
returns-in-Ok-clause-inserted g c =
    rw (← c.addr.view_is) (let used = leaf-used g.K.Ord.cmp g.met.K.Ord.total c.args.tree.now (rooted c.args.tree.now c.in-Some._root (sym c.root_id.ensures ∙ c.in-Some.is)) c.requires.tree c.args.item.0 c.args.item.1 (view c.addr.inside) (gap-at-leaf g.K.Ord.cmp g.met.K.Ord.total c.args.tree.now c.requires.tree c.args.item (view c.addr.inside) (rw (← c.addr.view_is) at c.requires.fits) (view c.addr.inside) (leaf-same g.K.Ord.cmp g.met.K.Ord.total c.args.tree.now c.requires.tree (view c.addr.inside) (rw (← c.addr.view_is) at c.requires.valid) (inl (can-leaf c.args.tree.now c.addr.inside.id c.unwrap.result c.in-Ok.ensures.can))) (rw (← c.addr.view_is) at c.requires.back)) in
    let enough = sym c.in-Ok.ensures.enough ∙ need-split_need g.K.Ord.cmp c.args.tree.now c.addr.inside.id c.requires.tree used in
    rw (c.set_len.ensures, c.len-in-Ok.ensures)
    (inserts-at g.K.Ord.cmp g.met.K.Ord.total c.args.tree.now c.requires.tree c.args.item (view c.addr.inside) (rw (← c.addr.view_is) at c.requires.fits) (view c.addr.inside) (leaf-same g.K.Ord.cmp g.met.K.Ord.total c.args.tree.now c.requires.tree (view c.addr.inside) (rw (← c.addr.view_is) at c.requires.valid) (inl (can-leaf c.args.tree.now c.addr.inside.id c.unwrap.result c.in-Ok.ensures.can))) _ (view c.addr.inside)
    (more-inserted g.K.Ord.cmp g.met.K.Ord.total c.args.tree.now (rooted c.args.tree.now c.in-Some._root (sym c.root_id.ensures ∙ c.in-Some.is)) c.requires.tree c.args.item.0 c.args.item.1 (view c.addr.inside) (gap-at-leaf g.K.Ord.cmp g.met.K.Ord.total c.args.tree.now c.requires.tree c.args.item (view c.addr.inside) (rw (← c.addr.view_is) at c.requires.fits) (view c.addr.inside) (leaf-same g.K.Ord.cmp g.met.K.Ord.total c.args.tree.now c.requires.tree (view c.addr.inside) (rw (← c.addr.view_is) at c.requires.valid) (inl (can-leaf c.args.tree.now c.addr.inside.id c.unwrap.result c.in-Ok.ensures.can))) (rw (← c.addr.view_is) at c.requires.back))
    [] c.args.tree.now (none-claimed c.args.tree.now) enough c.add_item_at_leaf.new.tree c.unwrap.result (sym c.unwrap.ensures.value) c.in-Ok.ensures.added
    c.add_item_at_leaf.new.tree (view c.addr.inside)
    (unsplit g.K.Ord.cmp g.met.K.Ord.total c.args.tree.now (rooted c.args.tree.now c.in-Some._root (sym c.root_id.ensures ∙ c.in-Some.is)) c.requires.tree c.args.item.0 c.args.item.1 (view c.addr.inside) (gap-at-leaf g.K.Ord.cmp g.met.K.Ord.total c.args.tree.now c.requires.tree c.args.item (view c.addr.inside) (rw (← c.addr.view_is) at c.requires.fits) (view c.addr.inside) (leaf-same g.K.Ord.cmp g.met.K.Ord.total c.args.tree.now c.requires.tree (view c.addr.inside) (rw (← c.addr.view_is) at c.requires.valid) (inl (can-leaf c.args.tree.now c.addr.inside.id c.unwrap.result c.in-Ok.ensures.can))) (rw (← c.addr.view_is) at c.requires.back))
    [] c.args.tree.now (none-claimed c.args.tree.now) enough c.add_item_at_leaf.new.tree c.unwrap.result (sym c.unwrap.ensures.value) c.in-Ok.ensures.added refl)
    (let above = c.if-limit-len.false in let limit = c.limit.ensures in let len = c.len.ensures in omega arith))))

pub returns-in-Ok-clause-bounded : goal.returns-in-Ok-clause-bounded
returns-in-Ok-clause-bounded g c = λ within.
    let low = c.if-limit-len.false in
    let limit = c.limit.ensures in
    let len = c.len.ensures in
    let same = same-len c.in-Ok.ensures.added.rest in
    let kept = ap (λ (k : Kept). k.limit) (same-kept c.in-Ok.ensures.added.rest) in
    rw (c.set_len.ensures, c.len-in-Ok.ensures) (omega arith)

pub overflow_add-len : goal.overflow_add-len
overflow_add-len g c =
    let low = c.if-limit-len.false in
    let limit = c.limit.ensures in
    let fits = c.limit.type_inv in
    let len = c.len.ensures in
    let same = same-len c.in-Ok.ensures.added.rest in
    rw c.len-in-Ok.ensures (omega arith)
