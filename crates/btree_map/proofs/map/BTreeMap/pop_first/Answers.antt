use Rattle.btree_map.proofs.Common.{refl}
use Rattle.btree_map.proofs.RemovalLemmas.{first-removed, no-first}
use Rattle.btree_map.proofs.map.BTreeMap.pop_first.Goals as goal

pub returns-in-Some-remove_at-clause-rest : goal.returns-in-Some-remove_at-clause-rest
returns-in-Some-remove_at-clause-rest g c =
    rw (c.into_pair.ensures, ← c.self.view_is)
    (first-removed c.self.inside.tree c.remove_at.new.self g.K.Ord.cmp _ c.in-Some.addr c.in-Some-remove_at.field-0-1 c.in-Some-remove_at.first
    c.in-Some.ensures.item.here c.in-Some-remove_at.ensures.removed refl)

pub returns-in-None-clause-rest : goal.returns-in-None-clause-rest
returns-in-None-clause-rest g c =
    let none = no-first c.self.inside.tree c.in-None.ensures in
    rw (← c.self.view_is) (none, none)
