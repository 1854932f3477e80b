use Rattle.std.proofs.Common.{◌-◌, map, refl, ◌∙◌, arith}
use Rattle.std.proofs.lemmas.List.{length-map}
use Rattle.btree_item.proofs.KeyLemmas.{is_lt-from_partial, Less-from_is_lt}
use Rattle.btree_view.proofs.CheckLemmas.{AscendUpTo-one, AscendUpTo-next, ascend-from_end, key-from_slot, not-ascending}
use Rattle.btree_view.proofs.checks.keys_ascend.Goals as goal

pub loop-index-init : goal.loop-index-init
loop-index-init g c = record { started = omega arith; ascend = AscendUpTo-one g.T.Key.Ord.cmp _ }

pub returns-then-not-lt : goal.returns-then-not-lt
returns-then-not-lt g c =
    let keys = map g.T.Keyed.key_of c.args.slots.now in
    let started = c.loop-index.invariant.started in
    let before = key-from_slot g.T.Keyed.key_of (c.loop-index.index - 1) c.args.slots.now c.get.result c.unwrap.result c.key-before.result.now c.get.ensures c.unwrap.ensures c.key-before.ensures in
    let here = key-from_slot g.T.Keyed.key_of c.loop-index.index c.args.slots.now c.get-in-loop-index.result c.unwrap-in-loop-index.result c.key-here.result.now c.get-in-loop-index.ensures c.unwrap-in-loop-index.ensures c.key-here.ensures in
    let not_less = is_lt-from_partial g.met.T.Key.Ord.matches_partial_cmp _ _ _ c.lt.ensures ∙ c.if-not-lt.true in
    ((λ no. absurd (cc)), λ up. absurd (not-ascending g.T.Key.Ord.cmp c.loop-index.index _ _ keys started up before here not_less))

pub loop-index-preserved : goal.loop-index-preserved
loop-index-preserved g c =
    let started = c.loop-index.invariant.started in
    let before = key-from_slot g.T.Keyed.key_of (c.loop-index.index - 1) c.args.slots.now c.get.result c.unwrap.result c.key-before.result.now c.get.ensures c.unwrap.ensures c.key-before.ensures in
    let here = key-from_slot g.T.Keyed.key_of c.loop-index.index c.args.slots.now c.get-in-loop-index.result c.unwrap-in-loop-index.result c.key-here.result.now c.get-in-loop-index.ensures c.unwrap-in-loop-index.ensures c.key-here.ensures in
    let less = Less-from_is_lt _ (is_lt-from_partial g.met.T.Key.Ord.matches_partial_cmp _ _ _ c.lt.ensures ∙ c.if-not-lt.false) in
    record {
      started = omega arith;
      ascend = AscendUpTo-next g.T.Key.Ord.cmp c.loop-index.index _ _ _ c.loop-index.invariant.ascend started before here less;
    }

pub returns : goal.returns
returns g c =
    let past = c.loop-index-test.false in
    let same = length-map c.args.slots.now g.T.Keyed.key_of in
    let long = c.len-index-end.ensures.value in
    ((λ yes. ascend-from_end g.T.Key.Ord.cmp g.met.T.Key.Ord.total _ _ (omega arith) c.loop-index.invariant.ascend), λ up. refl)
