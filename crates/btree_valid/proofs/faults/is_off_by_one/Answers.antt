use Rattle.btree_valid.proofs.Common.{◌≡◌, ◌∙◌, Some, ap, refl, sym}
use Rattle.std.proofs.Common.{eqb, not}
use Rattle.std.specs.Option.{option_eq}
use Rattle.btree_view.proofs.CheckLemmas.{same-parent}
use Rattle.btree_valid.proofs.OffByOneLemmas.{off-found, off-met, off-there}
use Rattle.btree_valid.proofs.faults.is_off_by_one.Goals as goal

pub returns-in_default : goal.returns-in_default
returns-in_default g c = (λ no. absurd (cc), λ off. absurd (off-there (g.C.Nodes.content c.args.nodes.now) g.K.Ord.cmp c.args.root c.args.exempt off (sym c.in_default.ensures.value)))

pub returns-in-Ok : goal.returns-in-Ok
returns-in-Ok g c = (
  λ yes. off-found (g.C.Nodes.content c.args.nodes.now) g.K.Ord.cmp c.args.root c.args.exempt _ c.len.ensures.len _ refl refl _ refl refl refl refl refl g.met.K.Ord.total (rw (← c.in-Some.ensures.value) refl)
      c.check_under.result c.check_under.ensures.only c.in-Ok.after c.in-Ok.is (same-parent c.in-Ok.after.nodes (Some 0) _ (ap not (sym yes ∙ c.eq.ensures)) refl),
  λ off.
      let m = off-met (g.C.Nodes.content c.args.nodes.now) g.K.Ord.cmp c.args.root c.args.exempt _ c.len.ensures.len _ refl refl _ refl refl refl refl refl off c.check_under.result c.check_under.ensures.always in
      let same : m.0 ≡ c.in-Ok.after = (let ok = m.1 in let was = c.in-Ok.is in cc) in
      c.eq.ensures ∙ ap (λ o. option_eq eqb o (Some 0)) (ap (λ after. after.nodes) (sym same) ∙ m.2),
)

pub returns-in-Err : goal.returns-in-Err
returns-in-Err g c = (
  λ no. absurd (cc),
  λ off.
      let m = off-met (g.C.Nodes.content c.args.nodes.now) g.K.Ord.cmp c.args.root c.args.exempt _ c.len.ensures.len _ refl refl _ refl refl refl refl refl off c.check_under.result c.check_under.ensures.always in
      let ok = m.1 in
      let err = c.in-Err.is in
      absurd (cc),
)

pub check_under-requires : goal.check_under-requires
check_under-requires g c = c.requires

pub get-requires : goal.get-requires
get-requires g c = search
