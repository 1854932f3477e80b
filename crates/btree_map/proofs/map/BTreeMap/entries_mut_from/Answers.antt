use Rattle.btree_map.proofs.Common.{item_addresses_of, bound_key}
use Rattle.btree_map.proofs.KnownLemmas.{known-none}
use Rattle.btree_map.proofs.RangeStarts.{before-first, from-first}
use Rattle.btree_map.proofs.RangeSteps.{stands-first}
use Rattle.btree_map.proofs.map.BTreeMap.entries_mut_from.Goals as goal

pub invariant_of-result : goal.invariant_of-result
invariant_of-result g c = record {
  first_stands = stands-first (item_addresses_of c.args.self.now) c.first_from-first.result _ c.first_from-first.ensures.value;
  counted = known-none _;
}

pub returns-clause-passed : goal.returns-clause-passed
returns-clause-passed g c =
    before-first g.K.Ord.cmp g.met.K.Ord.total c.args.self.now c.first_from-first.ensures.tree (bound_key c.args.start) c.first_from-first.result c.first_from-first.ensures.value

pub returns-clause-left : goal.returns-clause-left
returns-clause-left g c =
    from-first g.K.Ord.cmp g.met.K.Ord.total c.args.self.now c.first_from-first.ensures.tree (bound_key c.args.start) c.first_from-first.result c.first_from-first.ensures.value
