use Rattle.btree_set.proofs.Common.{◌∙◌, ap, pairs_of, keys_of, set_of}
use Rattle.btree_set.proofs.KeyLemmas.{inserted_all-keys, moves-each-keys, moves-keys, none-keys, room-keys, turn-refused}
use Rattle.btree_set.proofs.set.BTreeSet.append.Goals as goal

pub returns-in-Ok-clause-appended : goal.returns-in-Ok-clause-appended
returns-in-Ok-clause-appended g c = rw (← c.self.view_is, ← c.other.view_is) (ap (λ l. keys_of l) c.in-Ok.ensures.appended ∙ inserted_all-keys g.T.Ord.cmp (pairs_of c.self.inside.map) (pairs_of c.other.inside.map))

pub returns-in-Ok-clause-unchanged : goal.returns-in-Ok-clause-unchanged
returns-in-Ok-clause-unchanged g c = rw (← c.self.view_is, ← c.other.view_is) (λ e. let same = c.in-Ok.ensures.unchanged (none-keys (pairs_of c.other.inside.map) e) in (ap set_of same.0, ap set_of same.1))

pub returns-in-Ok-clause-swapped : goal.returns-in-Ok-clause-swapped
returns-in-Ok-clause-swapped g c =
    rw (← c.self.view_is, ← c.other.view_is)
    (λ room some. let same = c.in-Ok.ensures.swapped ((room-keys c.self.inside.map c.other.inside.map).0 room) (λ none. some (ap (λ l. keys_of l) none)) in (ap set_of same.0, ap set_of same.1))

pub returns-in-Ok-clause-uncounted : goal.returns-in-Ok-clause-uncounted
returns-in-Ok-clause-uncounted g c =
    rw (← c.self.view_is, ← c.other.view_is) (λ each. c.in-Ok.ensures.uncounted ((moves-each-keys c.self.inside.map c.other.inside.map).0 each))

pub returns-in-Ok-clause-other_uncounted : goal.returns-in-Ok-clause-other_uncounted
returns-in-Ok-clause-other_uncounted g c =
    rw (← c.self.view_is, ← c.other.view_is) (λ each. c.in-Ok.ensures.other_uncounted ((moves-each-keys c.self.inside.map c.other.inside.map).0 each))

pub returns-in-Err-clause-swapped : goal.returns-in-Err-clause-swapped
returns-in-Err-clause-swapped g c =
    rw (← c.self.view_is, ← c.other.view_is)
    (λ room some. absurd (c.in-Err.ensures.moved_each ((room-keys c.self.inside.map c.other.inside.map).0 room)))

pub returns-in-Err-clause-other_uncounted : goal.returns-in-Err-clause-other_uncounted
returns-in-Err-clause-other_uncounted g c =
    rw (← c.self.view_is, ← c.other.view_is) (λ each. c.in-Err.ensures.other_uncounted ((moves-each-keys c.self.inside.map c.other.inside.map).0 each))

pub returns-in-Err-clause-moved_each : goal.returns-in-Err-clause-moved_each
returns-in-Err-clause-moved_each g c =
    rw (← c.self.view_is, ← c.other.view_is) ((moves-each-keys c.self.inside.map c.other.inside.map).1 c.in-Err.ensures.moved_each)

pub returns-in-Err-clause-unchanged : goal.returns-in-Err-clause-unchanged
returns-in-Err-clause-unchanged g c = rw (← c.self.view_is, ← c.other.view_is) (λ e. let same = c.in-Err.ensures.unchanged (none-keys (pairs_of c.other.inside.map) e) in (ap set_of same.0, ap set_of same.1))

pub returns-in-Err-clause-stopped : goal.returns-in-Err-clause-stopped
returns-in-Err-clause-stopped g c = rw (← c.self.view_is, ← c.other.view_is) (moves-keys g.T.Ord.cmp (pairs_of c.self.inside.map) (pairs_of c.other.inside.map) (c.in-Err.refused.key, c.in-Err.refused.value) (pairs_of c.append.new.self) (pairs_of c.append.new.other) c.in-Err.ensures.stopped)

pub returns-in-Err-clause-cause : goal.returns-in-Err-clause-cause
returns-in-Err-clause-cause g c = rw (← c.self.view_is) (turn-refused g.C.NodesMut.MayRefuse g.T.Ord.cmp c.in-Err.refused.key _ c.append.new.self c.in-Err.refused.cause c.in-Err.ensures.cause)
