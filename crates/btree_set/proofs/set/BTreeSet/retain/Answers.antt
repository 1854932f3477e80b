use Rattle.btree_set.proofs.Common.{subst, sym, true, CalledAt, TakesAt, pairs_of, CallableOnEach, set_of}
use Rattle.btree_map.specs.Drain.{KeepsAddresses}
use Rattle.btree_set.specs.Drain.{Selects}
use Rattle.btree_set.proofs.DrainLemmas.{callable-pairs, selects-keys}
use Rattle.btree_set.proofs.set.BTreeSet.retain.Goals as goal

pub retain_by-requires : goal.retain_by-requires
retain_by-requires g c =
    callable-pairs _ _ _ (pairs_of c.self.inside.map)
    (rw c.new.ensures (subst (λ set. CallableOnEach (CalledAt g.F.FnMut) (TakesAt g.F.FnMut) c.args.f set.elements) (sym c.self.view_is) c.requires))

pub returns-clause-kept : goal.returns-clause-kept
returns-clause-kept g c =
    let kept = selects-keys (CalledAt g.F.FnMut) true c.new.result (pairs_of c.self.inside.map) (pairs_of c.retain_by.new.self) c.retain_by.ensures.kept in
    subst (λ set. Selects (CalledAt g.F.FnMut) true c.args.f set.elements (set_of c.retain_by.new.self).elements) c.self.view_is
    (subst (λ f. Selects (CalledAt g.F.FnMut) true f (set_of c.self.inside.map).elements (set_of c.retain_by.new.self).elements) c.new.ensures kept)

pub returns-clause-addresses : goal.returns-clause-addresses
returns-clause-addresses g c =
    subst (λ set. KeepsAddresses set.tree c.retain_by.new.self) c.self.view_is c.retain_by.ensures.addresses
