use Rattle.btree_valid.proofs.Common.{◌≡◌, ◌∙◌, Some, ap, arith, inl, inr, refl, subst, sym, err_from_is_err_and, NamesTree}
use Rattle.btree_view.proofs.CheckLemmas.{other-parent, same-parent}
use Rattle.btree_valid.proofs.faults.validate.Goals as goal

pub returns-in_err-after-clause-accepts : goal.returns-in_err-after-clause-accepts
returns-in_err-after-clause-accepts g c = λ tree low. let m = c.check_root.ensures.always tree in let ok = m.1 in let err = c.in_err-after.was in absurd (cc)

pub returns-then-ne-clause-accepts : goal.returns-then-ne-clause-accepts
returns-then-ne-clause-accepts g c = λ tree low.
    let m = c.check_root.ensures.always tree in
    let same : m.0 ≡ c.in_ok-after.after = (let ok = m.1 in let was = c.in_ok-after.was in cc) in
    absurd (other-parent c.in_ok-after.after.items (Some 0) _ c.if-ne.ensures refl (ap (λ after. after.items) (sym same) ∙ m.2))

pub returns-then-ne-2-clause-accepts : goal.returns-then-ne-2-clause-accepts
returns-then-ne-2-clause-accepts g c = λ tree low.
    let m = c.check_root.ensures.always tree in
    let same : m.0 ≡ c.in_ok-after.after = (let ok = m.1 in let was = c.in_ok-after.was in cc) in
    absurd (other-parent c.in_ok-after.after.nodes (Some 0) _ c.if-ne-2.ensures refl (ap (λ after. after.nodes) (sym same) ∙ m.3))

pub returns-clause-only : goal.returns-clause-only
returns-clause-only g c = λ ok. c.in_ok-after.ensures.only (same-parent c.in_ok-after.after.items (Some 0) _ c.if-ne.ensures refl) (same-parent c.in_ok-after.after.nodes (Some 0) _ c.if-ne-2.ensures refl)

pub returns-in_err-after-clause-verdict : goal.returns-in_err-after-clause-verdict
returns-in_err-after-clause-verdict g c =
    let e = err_from_is_err_and c.from_residual.result c.from_residual.ensures.1 in
    rw (e.1, e.2) (inl (c.in_err-after.field-0.0, subst (NamesTree g.K.Ord.cmp (g.C.Nodes.content c.args.nodes.now) c.args.root c.args.len) c.in_err-after.was c.check_root.ensures.names, refl))

pub returns-then-ne-clause-verdict : goal.returns-then-ne-clause-verdict
returns-then-ne-clause-verdict g c =
    let n = subst (NamesTree g.K.Ord.cmp (g.C.Nodes.content c.args.nodes.now) c.args.root c.args.len) c.in_ok-after.was c.check_root.ensures.names in
    inr (n.none, inl (λ same. other-parent c.in_ok-after.after.items (Some 0) _ c.if-ne.ensures refl (n.all_items.1 same), refl))

pub returns-then-ne-2-clause-verdict : goal.returns-then-ne-2-clause-verdict
returns-then-ne-2-clause-verdict g c =
    let n = subst (NamesTree g.K.Ord.cmp (g.C.Nodes.content c.args.nodes.now) c.args.root c.args.len) c.in_ok-after.was c.check_root.ensures.names in
    inr (n.none, inr (n.all_items.0 (same-parent c.in_ok-after.after.items (Some 0) _ c.if-ne.ensures refl), inl (λ few. other-parent c.in_ok-after.after.nodes (Some 0) _ c.if-ne-2.ensures refl (n.all_nodes.1 few), refl)))

pub returns-then-limit-len-clause-verdict : goal.returns-then-limit-len-clause-verdict
returns-then-limit-len-clause-verdict g c =
    let n = subst (NamesTree g.K.Ord.cmp (g.C.Nodes.content c.args.nodes.now) c.args.root c.args.len) c.in_ok-after.was c.check_root.ensures.names in
    inr (
      n.none,
      inr (
        n.all_items.0 (same-parent c.in_ok-after.after.items (Some 0) _ c.if-ne.ensures refl),
        inr (n.all_nodes.0 (same-parent c.in_ok-after.after.nodes (Some 0) _ c.if-ne-2.ensures refl), inl (λ low. omega arith, refl)),
      ),
    )

pub returns-clause-verdict : goal.returns-clause-verdict
returns-clause-verdict g c =
    let n = subst (NamesTree g.K.Ord.cmp (g.C.Nodes.content c.args.nodes.now) c.args.root c.args.len) c.in_ok-after.was c.check_root.ensures.names in
    inr (
      n.none,
      inr (
        n.all_items.0 (same-parent c.in_ok-after.after.items (Some 0) _ c.if-ne.ensures refl),
        inr (n.all_nodes.0 (same-parent c.in_ok-after.after.nodes (Some 0) _ c.if-ne-2.ensures refl), inr (omega arith, refl)),
      ),
    )

pub check_root-requires : goal.check_root-requires
check_root-requires g c = c.requires

pub returns-in_err-after-clause-only : goal.returns-in_err-after-clause-only
returns-in_err-after-clause-only g c = let e = err_from_is_err_and c.from_residual.result c.from_residual.ensures.1 in rw (e.1, e.2) (λ ok. absurd (cc))

pub returns-in_err-after-clause-limited : goal.returns-in_err-after-clause-limited
returns-in_err-after-clause-limited g c = let e = err_from_is_err_and c.from_residual.result c.from_residual.ensures.1 in rw (e.1, e.2) (λ ok. absurd (cc))

pub returns-then-ne-clause-only : goal.returns-then-ne-clause-only
returns-then-ne-clause-only g c = λ ok. absurd (cc)

pub returns-then-ne-clause-limited : goal.returns-then-ne-clause-limited
returns-then-ne-clause-limited g c = λ ok. absurd (cc)

pub returns-then-ne-2-clause-only : goal.returns-then-ne-2-clause-only
returns-then-ne-2-clause-only g c = λ ok. absurd (cc)

pub returns-then-ne-2-clause-limited : goal.returns-then-ne-2-clause-limited
returns-then-ne-2-clause-limited g c = λ ok. absurd (cc)

pub returns-then-limit-len-clause-accepts : goal.returns-then-limit-len-clause-accepts
returns-then-limit-len-clause-accepts g c = λ tree low. absurd (omega arith)

pub returns-then-limit-len-clause-only : goal.returns-then-limit-len-clause-only
returns-then-limit-len-clause-only g c = λ ok. absurd (cc)

pub returns-then-limit-len-clause-limited : goal.returns-then-limit-len-clause-limited
returns-then-limit-len-clause-limited g c = λ ok. absurd (cc)

pub returns-clause-limited : goal.returns-clause-limited
returns-clause-limited g c = λ ok. c.if-limit-len.false

pub returns-clause-accepts : goal.returns-clause-accepts
returns-clause-accepts g c = λ tree low. refl
