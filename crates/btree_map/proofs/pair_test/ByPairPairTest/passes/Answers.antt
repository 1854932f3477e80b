use Rattle.btree_map.proofs.Common.{refl, subst}
use Rattle.std.specs.Map.Calls.{CalledAtPair}
use Rattle.btree_map.proofs.pair_test.ByPairPairTest.passes.Goals as goal

pub returns : goal.returns
returns g c =
    let called : CalledAtPair g.F.FnMut c.self.inside.call c.args.key.now c.args.value.now c.call_mut.result c.call_mut.new.arg3 c.call_mut.new.self =
    record { key = _; value = _; shows = (refl, refl); left = _; called = c.call_mut.ensures; leaves = refl } in
    subst (λ f. CalledAtPair g.F.FnMut f c.args.key.now c.args.value.now c.call_mut.result c.call_mut.new.arg3 c.call_mut.new.self) c.self.view_is called
