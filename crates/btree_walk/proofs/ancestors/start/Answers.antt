use Rattle.btree_walk.proofs.Common.{sym, ap, subst, ◌∙◌, ◌++◌, arith, append-nil, refl, rules, remaining_above, represented, node_map, pairs_under, pairs_of, IsWellFormed, rows_of}
use Rattle.std.specs.FinMap as map
use Rattle.btree_walk.proofs.IterLemmas.{root-under}
use Rattle.btree_walk.proofs.ancestors.start.Goals as goal

pub descend-requires : goal.descend-requires
descend-requires g c =
    let well = subst (λ r. IsWellFormed g.K.Ord.cmp (node_map c.args.tree.now) r c.args.tree.now.len (pairs_of c.args.tree.now)) (sym c.in-Some.ensures.value) c.in-Some.ensures.well_formed in
    let fits = c.len-len.type_inv in
    let is = c.len-len.ensures in (
      omega arith,
      (
        search,
        (
          rw c.requires.none tt,
          rw c.requires.none (root-under g.K.Ord.cmp c.args.tree.now c.in-Some.root (rw (← is) fits) well),
        ),
      ),
    )

pub returns-in-Some-clause-left : goal.returns-in-Some-clause-left
returns-in-Some-clause-left g c =
    sym c.descend.ensures.left
    ∙ ap (λ fs. represented (node_map c.args.tree.now) (map.len c.args.tree.now.nodes) c.in-Some.root ++ remaining_above (node_map c.args.tree.now) (map.len c.args.tree.now.nodes) (rows_of fs)) c.requires.none
    ∙ append-nil (represented (node_map c.args.tree.now) (map.len c.args.tree.now.nodes) c.in-Some.root)
    ∙ ap (λ r. pairs_under (node_map c.args.tree.now) r (map.len c.args.tree.now.nodes)) c.in-Some.ensures.value

pub tell_fits-requires : goal.tell_fits-requires
tell_fits-requires g c κs = search rules steps 200000

pub len-len-requires : goal.len-len-requires
len-len-requires g c κs = search rules steps 200000

pub root_id-requires : goal.root_id-requires
root_id-requires g c κs = search rules steps 200000

pub returns-in-Some-clause-above : goal.returns-in-Some-clause-above
returns-in-Some-clause-above g c = c.descend.ensures.above

pub returns-in-None-clause-above : goal.returns-in-None-clause-above
returns-in-None-clause-above g c = rw c.requires.none tt

pub returns-in-None-clause-left : goal.returns-in-None-clause-left
returns-in-None-clause-left g c = rw (c.requires.none, ← c.in-None.ensures.value) refl
