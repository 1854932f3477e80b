use Rattle.btree_map.proofs.Common.{◌≡◌, ◌∙◌, true, subst, sym, is_gt, TreeState, IsBTree, pairs_of, rises}
use Rattle.btree_map.proofs.QueryLemmas.{between-keys, greater, none-between, none-from, none-to}
use Rattle.btree_map.proofs.queries.bounds_by.Goals as goal

pub returns-in_default-clause-between : goal.returns-in_default-clause-between
returns-in_default-clause-between g c =
    let tree = subst (λ (t : TreeState _ _). IsBTree g.K.Ord.cmp t) (sym c.map.view_is) c.tell_well_formed.ensures.well_formed in
    c.no_bounds.ensures.empty
    ∙ rw (← c.map.view_is) (sym (none-from g.K.Ord.cmp g.met.K.Ord.total g.Q.Query.compare g.met.Q.Query.cuts c.args.start.now g.R.Query.compare g.met.R.Query.cuts c.args.end.now
    (pairs_of c.map.inside.tree) (rises g.K.Ord.cmp (pairs_of c.map.inside.tree) tree.ascends)
    (sym (c.in_default.ensures _ c.address_near.ensures.place))))

pub returns-in_default-pair_before-clause-between : goal.returns-in_default-pair_before-clause-between
returns-in_default-pair_before-clause-between g c =
    let tree = subst (λ (t : TreeState _ _). IsBTree g.K.Ord.cmp t) (sym c.map.view_is) c.tell_well_formed.ensures.well_formed in
    c.no_bounds-in_default-pair_before.ensures.empty
    ∙ rw (← c.map.view_is) (sym (none-to g.K.Ord.cmp g.met.K.Ord.total g.Q.Query.compare g.met.Q.Query.cuts c.args.start.now g.R.Query.compare g.met.R.Query.cuts c.args.end.now
    (pairs_of c.map.inside.tree) (rises g.K.Ord.cmp (pairs_of c.map.inside.tree) tree.ascends)
    (sym (c.in_default-pair_before.ensures _ c.address_near-2.ensures.place))))

pub returns-then-is_gt-clause-between : goal.returns-then-is_gt-clause-between
returns-then-is_gt-clause-between g c =
    let tree = subst (λ (t : TreeState _ _). IsBTree g.K.Ord.cmp t) (sym c.map.view_is) c.tell_well_formed.ensures.well_formed in
    let gt : is_gt (g.K.Ord.cmp c.in-Some.first.0.now c.in-Some-pair_before.last.0.now) ≡ true = cc in
    c.no_bounds-then-is_gt.ensures.empty
    ∙ rw (← c.map.view_is) (sym (none-between g.K.Ord.cmp g.met.K.Ord.total g.Q.Query.compare g.met.Q.Query.cuts c.args.start.now g.R.Query.compare g.met.R.Query.cuts c.args.end.now
    (pairs_of c.map.inside.tree) (rises g.K.Ord.cmp (pairs_of c.map.inside.tree) tree.ascends)
    (c.in-Some.first.0.now, c.in-Some.first.1.now) (c.in-Some-pair_before.last.0.now, c.in-Some-pair_before.last.1.now)
    (sym (c.in-Some.ensures _ c.address_near.ensures.place)) (sym (c.in-Some-pair_before.ensures _ c.address_near-2.ensures.place)) (greater _ gt)))

pub returns-clause-between : goal.returns-clause-between
returns-clause-between g c =
    let tree = subst (λ (t : TreeState _ _). IsBTree g.K.Ord.cmp t) (sym c.map.view_is) c.tell_well_formed.ensures.well_formed in
    rw (← c.map.view_is) (between-keys g.K.Ord.cmp g.met.K.Ord.total g.Q.Query.compare g.met.Q.Query.cuts c.args.start.now g.R.Query.compare g.met.R.Query.cuts c.args.end.now
    (pairs_of c.map.inside.tree) (rises g.K.Ord.cmp (pairs_of c.map.inside.tree) tree.ascends)
    (c.in-Some.first.0.now, c.in-Some.first.1.now) (c.in-Some-pair_before.last.0.now, c.in-Some-pair_before.last.1.now)
    (sym (c.in-Some.ensures _ c.address_near.ensures.place)) (sym (c.in-Some-pair_before.ensures _ c.address_near-2.ensures.place)))
