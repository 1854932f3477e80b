use Rattle.btree_raw.proofs.Common.{◌≡◌, ◌+◌, ◌-◌, Some, slice_get, arith, rules, subst, sym, common_steps, view_of, children_of, used-view}
use Rattle.btree_raw.proofs.UnderflowLemmas.{child-parent, index-there, index-at, siblings-first, siblings-focus, siblings-next}
use Rattle.btree_raw.proofs.underflow.siblings.Goals as goal

pub node-node-requires : goal.node-node-requires
node-node-requires g c = (c.tell_fits.ensures, used-view c.args.tree.now.nodes c.args.parent (child-parent c.args.tree.now.nodes c.args.parent c.args.id c.requires))

pub unwrap-index-requires : goal.unwrap-index-requires
unwrap-index-requires g c = index-there c.args.tree.now.nodes c.args.parent c.args.id c.requires c.node-node.result.now c.node-node.ensures.value c.child_index.result c.child_index.ensures.value

pub overflow_add-index : goal.overflow_add-index
overflow_add-index g c =
    let l = (index-at c.args.tree.now.nodes c.args.parent c.args.id c.requires c.node-node.result.now c.node-node.ensures.value c.child_index.result c.child_index.ensures.value c.unwrap-index.result c.unwrap-index.ensures).0 in
    let v = c.child_count-few.ensures.value in let f = c.child_count-few.ensures.fits in omega arith

pub returns-then-index-eq0 : goal.returns-then-index-eq0
returns-then-index-eq0 g c =
    let nodes = c.args.tree.now.nodes in
    let at = index-at nodes c.args.parent c.args.id c.requires c.node-node.result.now c.node-node.ensures.value c.child_index.result c.child_index.ensures.value c.unwrap-index.result c.unwrap-index.ensures in
    siblings-first nodes c.args.parent c.args.id c.requires c.node-node.result.now c.node-node.ensures.value c.child_index.result c.child_index.ensures.value c.unwrap-index.result c.unwrap-index.ensures
    c.siblings_of-after.result
    (siblings-focus nodes c.args.parent c.node-node.result.now c.node-node.ensures.value c.unwrap-index.result (Some c.args.id) c.child_id_opt-right.result (sym at.1) c.child_id_opt-right.ensures c.siblings_of-after.result c.siblings_of-after.ensures)
    c.if-index-eq0.true

pub returns : goal.returns
returns g c =
    let nodes = c.args.tree.now.nodes in
    let index = c.unwrap-index.result in
    let children = children_of (view_of c.node-node.result.now) in
    let at = index-at nodes c.args.parent c.args.id c.requires c.node-node.result.now c.node-node.ensures.value c.child_index.result c.child_index.ensures.value c.unwrap-index.result c.unwrap-index.ensures in
    let after = siblings-focus nodes c.args.parent c.node-node.result.now c.node-node.ensures.value c.unwrap-index.result (Some c.args.id) c.child_id_opt-right.result (sym at.1) c.child_id_opt-right.ensures c.siblings_of-after.result c.siblings_of-after.ensures in
    let same : index ≡ index - 1 + 1 = (let some = c.if-index-eq0.false in omega (arith, some)) in
    let here : Some c.args.id ≡ slice_get children (index - 1 + 1) = subst (λ n. Some c.args.id ≡ slice_get children n) same (sym at.1) in
    let before = siblings-focus nodes c.args.parent c.node-node.result.now c.node-node.ensures.value (c.unwrap-index.result - 1) c.child_id_opt-left.result (Some c.args.id) c.child_id_opt-left.ensures here c.siblings_of.result c.siblings_of.ensures in
    siblings-next nodes c.args.parent c.args.id c.requires c.node-node.result.now c.node-node.ensures.value c.child_index.result c.child_index.ensures.value c.unwrap-index.result c.unwrap-index.ensures
    c.siblings_of-after.result after c.siblings_of.result before c.if-index-eq0.false

pub tell_fits-requires : goal.tell_fits-requires
tell_fits-requires g c κs = search rules steps 200000

pub overflow_sub-index : goal.overflow_sub-index
overflow_sub-index g c = grind (arith, common_steps) steps 300000

pub child_count-few-requires : goal.child_count-few-requires
child_count-few-requires g c = c.tell_fits.ensures

pub child_index-requires : goal.child_index-requires
child_index-requires g c = c.tell_fits.ensures

pub child_id_opt-right-requires : goal.child_id_opt-right-requires
child_id_opt-right-requires g c = c.tell_fits.ensures

pub child_id_opt-left-requires : goal.child_id_opt-left-requires
child_id_opt-left-requires g c = c.tell_fits.ensures
