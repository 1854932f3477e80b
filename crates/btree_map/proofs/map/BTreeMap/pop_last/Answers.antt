use Rattle.btree_map.proofs.Common.{refl}
use Rattle.btree_map.proofs.RemovalLemmas.{last-removed, last-some, no-last, removed-pair, removes-place}
use Rattle.btree_map.proofs.map.BTreeMap.pop_last.Goals as goal

pub returns-in-Some-remove_at-clause-pair : goal.returns-in-Some-remove_at-clause-pair
returns-in-Some-remove_at-clause-pair g c =
    rw (c.into_pair.ensures, ← c.self.view_is)
    (removed-pair c.self.inside.tree c.remove_at.new.self g.K.Ord.cmp _ c.in-Some.addr c.in-Some-remove_at.field-0-1 c.in-Some-remove_at.last
    (last-some c.self.inside.tree c.in-Some.addr c.in-Some.ensures) c.in-Some-remove_at.ensures.removed)

pub returns-in-Some-remove_at-clause-removed : goal.returns-in-Some-remove_at-clause-removed
returns-in-Some-remove_at-clause-removed g c =
    rw (c.into_pair.ensures, ← c.self.view_is)
    (removes-place c.self.inside.tree c.remove_at.new.self g.K.Ord.cmp _ c.in-Some.addr c.in-Some-remove_at.field-0-1 c.in-Some-remove_at.last
    (last-some c.self.inside.tree c.in-Some.addr c.in-Some.ensures) c.in-Some-remove_at.ensures.removed)

pub returns-in-Some-remove_at-clause-rest : goal.returns-in-Some-remove_at-clause-rest
returns-in-Some-remove_at-clause-rest g c =
    rw (c.into_pair.ensures, ← c.self.view_is)
    (last-removed c.self.inside.tree c.remove_at.new.self g.K.Ord.cmp _ c.in-Some.addr c.in-Some-remove_at.field-0-1 c.in-Some-remove_at.last
    (last-some c.self.inside.tree c.in-Some.addr c.in-Some.ensures) c.in-Some-remove_at.ensures.removed refl)

pub returns-in-None-clause-rest : goal.returns-in-None-clause-rest
returns-in-None-clause-rest g c =
    let none = no-last c.self.inside.tree c.in-None.ensures in
    rw (← c.self.view_is) (none, none)
