use Rattle.std.proofs.Common.{ap}
use Rattle.std.specs.Option.{option_copied}
use Rattle.btree_item.proofs.KeyLemmas.{is_lt-from_partial}
use Rattle.btree_view.proofs.EndLemmas.{EndsBelow-last, EndsBelow-none}
use Rattle.btree_view.proofs.checks.ends_below.Goals as goal

pub returns-in-Some-get : goal.returns-in-Some-get
returns-in-Some-get g c =
    let less = is_lt-from_partial g.met.T.Key.Ord.matches_partial_cmp _ _ _ c.lt.ensures in
    let keyed = rw c.key.ensures at less in
    EndsBelow-last g.T.Key.Ord.cmp g.T.Keyed.key_of c.args.slots.now c.len-count.result _ _ _ _ _ c.len-count.ensures.value c.get.ensures (ap option_copied c.in-Some.is) (ap option_copied c.in-Some-get.is) keyed

pub returns-in-None-get : goal.returns-in-None-get
returns-in-None-get g c =
    EndsBelow-none g.T.Key.Ord.cmp g.T.Keyed.key_of c.args.slots.now c.len-count.result _ _ _ c.len-count.ensures.value c.get.ensures (ap option_copied c.in-Some.is) (ap option_copied c.in-None-get.is)
