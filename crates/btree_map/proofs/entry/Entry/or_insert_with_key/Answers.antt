use Rattle.btree_map.proofs.Common.{Some, refl, sym, ap, subst}
use Rattle.std.proofs.lemmas.Result.{IfErr-weaker, IfOk-weaker}
use Rattle.std.specs.Fn.{FnOnceReturnsAt}
use Rattle.btree_map.proofs.entry.Entry.or_insert_with_key.Goals as goal

pub returns-in-Vacant : goal.returns-in-Vacant
returns-in-Vacant g c =
    let made = FnOnceReturnsAt g.F.FnOnce c.args.default c.in-Vacant.entry.key in
    let gave : made c.default-value.result = (c.key.result, c.default-value.ensures, c.key.ensures) in
    rw c.in-Vacant.is (
      (
        refl,
        λ w ok. let h = c.insert.follows.holds w ok in record { pairs = h.pairs; sets = (_, h) },
        c.insert.follows.holds-at-none,
      ),
      record {
        writes_back = tt;
        value = IfOk-weaker c.insert.result _ _ (λ v e. subst made (sym e) gave) c.insert.ensures.value;
        returned = IfErr-weaker c.insert.result _ _
            (λ r e. (ap Some (sym e.0), subst (λ (p : g.row.K.Denot × g.row.V.Denot). FnOnceReturnsAt g.F.FnOnce c.args.default p.0 p.1) (λ i. (sym e.0 i, sym e.1 i)) gave))
            c.insert.ensures.returned;
      },
    )
