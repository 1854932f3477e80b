use Rattle.btree_map.proofs.Common.{refl, subst}
use Rattle.std.specs.Fn.{CalledAt}
use Rattle.btree_map.proofs.pair_test.ByKeyPairTest.passes.Goals as goal

pub returns : goal.returns
returns g c =
    let called : CalledAt g.F.FnMut c.self.inside.call c.args.key.now c.call_mut.result c.call_mut.new.self =
    record { shown = _; shows = refl; called = c.call_mut.ensures } in
    (subst (λ f. CalledAt g.F.FnMut f c.args.key.now c.call_mut.result c.call_mut.new.self) c.self.view_is called, refl)
