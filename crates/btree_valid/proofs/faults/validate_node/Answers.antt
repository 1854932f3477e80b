use Rattle.btree_valid.proofs.Common.{◌≡◌, ◌∙◌, None, Ok, ap, refl, subst, sym, err_from_is_err_and, BlamesAt, Met}
use Rattle.std.specs.Option.{unwrap_or}
use Rattle.btree_valid.proofs.EndLemmas.{node-named, node-passed}
use Rattle.btree_valid.proofs.TreeLemmas.{node-suits}
use Rattle.btree_valid.proofs.WholeLemmas.{node-blamed, node-met}
use Rattle.btree_valid.proofs.faults.validate_node.Goals as goal

pub returns-in_err-after-clause-accepts : goal.returns-in_err-after-clause-accepts
returns-in_err-after-clause-accepts g c = λ tree same low formed suits.
    let m = node-met g.K.Ord.cmp tree c.args.id c.args.parent _ _ (g.C.Nodes.content c.args.nodes.now) same low formed suits _ refl _ refl refl refl refl refl c.check_under.result c.check_under.ensures.always in
    let ok = m.1 in
    let err = c.in_err-after.was in
    absurd (cc)

pub returns-clause-unused : goal.returns-clause-unused
returns-clause-unused g c = λ none. let err = c.check_under.ensures.unused none in let ok = c.in_ok-after.was in absurd (cc)

pub returns-clause-accepts : goal.returns-clause-accepts
returns-clause-accepts g c = λ tree same low formed suits.
    let m = node-met g.K.Ord.cmp tree c.args.id c.args.parent _ _ (g.C.Nodes.content c.args.nodes.now) same low formed suits _ refl _ refl refl refl refl refl c.check_under.result c.check_under.ensures.always in
    let is : m.0 ≡ c.in_ok-after.after = (let ok = m.1 in let was = c.in_ok-after.was in cc) in
    ap Ok (c.unwrap_or.ensures ∙ ap (λ level. unwrap_or level 0) (ap (λ after. after.leaf_level) (sym is) ∙ m.2))

pub returns-clause-only : goal.returns-clause-only
returns-clause-only g c = λ tree same formed. node-suits g.K.Ord.cmp tree c.args.id c.args.parent _ _ (g.C.Nodes.content c.args.nodes.now) same formed _ _ refl refl refl refl c.in_ok-after.after c.in_ok-after.ensures.only

pub returns-in_err-after-clause-blames : goal.returns-in_err-after-clause-blames
returns-in_err-after-clause-blames g c =
    let e = err_from_is_err_and c.from_residual.result c.from_residual.ensures.1 in
    let start : Met = record { leaf_level = None; items = None; nodes = None } in
    rw (e.1, e.2) (λ tree same low formed. node-blamed g.K.Ord.cmp tree c.args.id c.args.parent _ _ (g.C.Nodes.content c.args.nodes.now) same low formed start refl _ refl refl refl refl refl c.in_err-after.field-0.0 (subst (BlamesAt (g.C.Nodes.content c.args.nodes.now) g.K.Ord.cmp _ start) c.in_err-after.was (c.check_under.ensures.blames refl)))

pub returns-in_err-after-clause-verdict : goal.returns-in_err-after-clause-verdict
returns-in_err-after-clause-verdict g c =
    let e = err_from_is_err_and c.from_residual.result c.from_residual.ensures.1 in
    let start : Met = record { leaf_level = None; items = None; nodes = None } in
    rw (e.1, e.2) (node-named (g.C.Nodes.content c.args.nodes.now) g.K.Ord.cmp c.args.id c.args.parent _ _ start refl _ refl refl refl refl refl c.check_under.result (c.check_under.ensures.names refl) c.in_err-after.field-0.0 c.in_err-after.was)

pub returns-clause-verdict : goal.returns-clause-verdict
returns-clause-verdict g c =
    let start : Met = record { leaf_level = None; items = None; nodes = None } in
    node-passed (g.C.Nodes.content c.args.nodes.now) g.K.Ord.cmp c.args.id c.args.parent _ _ start refl _ refl refl refl refl refl c.in_ok-after.after c.in_ok-after.ensures.only _ c.unwrap_or.ensures

pub check_under-requires : goal.check_under-requires
check_under-requires g c = c.requires

pub returns-in_err-after-clause-unused : goal.returns-in_err-after-clause-unused
returns-in_err-after-clause-unused g c = let e = err_from_is_err_and c.from_residual.result c.from_residual.ensures.1 in rw (e.1, e.2) (λ none. let own = c.check_under.ensures.unused none in let was = c.in_err-after.was in cc)

pub returns-in_err-after-clause-only : goal.returns-in_err-after-clause-only
returns-in_err-after-clause-only g c = λ s same formed. let e = err_from_is_err_and c.from_residual.result c.from_residual.ensures.1 in rw e.1 tt

pub returns-clause-blames : goal.returns-clause-blames
returns-clause-blames g c = λ s same low formed. tt
