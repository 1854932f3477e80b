use Rattle.btree_valid.proofs.Common.{None, Ok, Some, arith, refl, subst, sym, Met, NamesTree}
use Rattle.btree_valid.specs.Spots.{FindsTree, MeetsTree}
use Rattle.btree_valid.proofs.EndLemmas.{all-named, none-named}
use Rattle.btree_valid.proofs.TreeLemmas.{all-found, none-found}
use Rattle.btree_valid.proofs.WholeLemmas.{all-comes, none-comes}
use Rattle.btree_valid.proofs.faults.check_root.Goals as goal

pub returns-in_default-clause-always : goal.returns-in_default-clause-always
returns-in_default-clause-always g c =
    let start : Met = record { leaf_level = None; items = Some c.args.len; nodes = Some c.len.result } in
    subst (λ root. MeetsTree (g.C.Nodes.content c.args.nodes.now) g.K.Ord.cmp root c.args.len (Ok start)) (sym c.in_default.is) (none-comes (g.C.Nodes.content c.args.nodes.now) g.K.Ord.cmp c.args.len _ c.len.ensures.len start refl refl)

pub returns-in_default-clause-only : goal.returns-in_default-clause-only
returns-in_default-clause-only g c =
    let start : Met = record { leaf_level = None; items = Some c.args.len; nodes = Some c.len.result } in
    subst (λ root. FindsTree (g.C.Nodes.content c.args.nodes.now) g.K.Ord.cmp root c.args.len (Ok start)) (sym c.in_default.is) (none-found (g.C.Nodes.content c.args.nodes.now) g.K.Ord.cmp c.args.len _ c.len.ensures.len start refl refl)

pub returns-clause-always : goal.returns-clause-always
returns-clause-always g c = subst (λ root. MeetsTree (g.C.Nodes.content c.args.nodes.now) g.K.Ord.cmp root c.args.len c.check_under.result) (sym c.in-Some.is) (all-comes (g.C.Nodes.content c.args.nodes.now) g.K.Ord.cmp c.args.len _ (omega (arith, c.ranges.len.fits)) _ c.len.ensures.len _ refl refl refl _ refl refl refl refl refl c.check_under.result c.check_under.ensures.always)

pub returns-clause-only : goal.returns-clause-only
returns-clause-only g c = subst (λ root. FindsTree (g.C.Nodes.content c.args.nodes.now) g.K.Ord.cmp root c.args.len c.check_under.result) (sym c.in-Some.is) (all-found (g.C.Nodes.content c.args.nodes.now) g.K.Ord.cmp c.args.len g.met.K.Ord.total _ _ c.len.ensures.len _ refl refl _ refl refl refl refl c.check_under.result c.check_under.ensures.only)

pub returns-in_default-clause-names : goal.returns-in_default-clause-names
returns-in_default-clause-names g c =
    let start : Met = record { leaf_level = None; items = Some c.args.len; nodes = Some c.len.result } in
    subst (λ root. NamesTree g.K.Ord.cmp (g.C.Nodes.content c.args.nodes.now) root c.args.len (Ok start)) (sym c.in_default.is) (none-named (g.C.Nodes.content c.args.nodes.now) g.K.Ord.cmp c.args.len _ c.len.ensures.len start refl refl)

pub returns-clause-names : goal.returns-clause-names
returns-clause-names g c = subst (λ root. NamesTree g.K.Ord.cmp (g.C.Nodes.content c.args.nodes.now) root c.args.len c.check_under.result) (sym c.in-Some.is) (all-named (g.C.Nodes.content c.args.nodes.now) g.K.Ord.cmp c.args.len g.met.K.Ord.total _ _ c.len.ensures.len _ refl refl refl _ refl refl refl refl refl c.check_under.result c.check_under.ensures.only c.check_under.ensures.always (c.check_under.ensures.names refl))

pub check_under-requires : goal.check_under-requires
check_under-requires g c = c.requires
