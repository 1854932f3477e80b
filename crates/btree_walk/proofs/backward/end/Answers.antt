use Rattle.btree_walk.proofs.Common.{sym, ap, subst, ◌∙◌, ◌++◌, arith, refl, rules, fits-leaf, represented, node_map, pairs_under, pairs_of, IsWellFormed, preceding_above, rows_before}
use Rattle.std.specs.FinMap as map
use Rattle.btree_walk.proofs.IterLemmas.{root-under}
use Rattle.btree_walk.proofs.backward.end.Goals as goal

pub descend_last-kept-requires : goal.descend_last-kept-requires
descend_last-kept-requires g c =
    let well = subst (λ r. IsWellFormed g.K.Ord.cmp (node_map c.args.tree.now) r c.args.tree.now.len (pairs_of c.args.tree.now)) (sym c.in-Some.ensures.value) c.in-Some.ensures.well_formed in
    let fits = c.len-len.type_inv in
    let is = c.len-len.ensures in
    let under = root-under g.K.Ord.cmp c.args.tree.now c.in-Some.root (rw (← is) fits) well in
    (omega arith, (omega arith, (search rules, (search fits-leaf, (rw c.requires.none tt, (rw c.requires.none under, c.requires.fetched))))))

pub returns-clause-left : goal.returns-clause-left
returns-clause-left g c =
    sym c.descend_last-kept.ensures.left
    ∙ ap (λ fs. preceding_above (node_map c.args.tree.now) (map.len c.args.tree.now.nodes) (rows_before fs) ++ represented (node_map c.args.tree.now) (map.len c.args.tree.now.nodes) c.in-Some.root) c.requires.none
    ∙ ap (λ r. pairs_under (node_map c.args.tree.now) r (map.len c.args.tree.now.nodes)) c.in-Some.ensures.value

pub returns-in_default-clause-above : goal.returns-in_default-clause-above
returns-in_default-clause-above g c = rw c.requires.none tt

pub returns-in_default-clause-fetched : goal.returns-in_default-clause-fetched
returns-in_default-clause-fetched g c = c.requires.fetched

pub returns-in_default-clause-kept : goal.returns-in_default-clause-kept
returns-in_default-clause-kept g c = refl

pub returns-in_default-clause-left : goal.returns-in_default-clause-left
returns-in_default-clause-left g c = rw (c.requires.none, ← c.in_default.ensures.value) refl

pub returns-clause-above : goal.returns-clause-above
returns-clause-above g c = c.descend_last-kept.ensures.above

pub returns-clause-fetched : goal.returns-clause-fetched
returns-clause-fetched g c = c.descend_last-kept.ensures.fetched

pub returns-clause-kept : goal.returns-clause-kept
returns-clause-kept g c = c.descend_last-kept.ensures.kept
