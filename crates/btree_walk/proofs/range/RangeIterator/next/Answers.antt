use Rattle.btree_walk.proofs.Common.{◌∷◌, ◌∙◌, ap, arith, length, sym, pair_now}
use Rattle.btree_item.proofs.KeyLemmas.{Less-from_is_lt, is_lt-from_partial}
use Rattle.btree_walk.specs.Rows.{remaining_after}
use Rattle.btree_walk.proofs.RangeLemmas.{meets-after, meets-front, none-ahead, none-left, passes-front, steps-front}
use Rattle.btree_walk.proofs.range.RangeIterator.next.Goals as goal

pub tell_fits-requires : goal.tell_fits-requires
tell_fits-requires g c = c.self.invariant.0

pub invariant_of-self : goal.invariant_of-self
invariant_of-self g c =
    let it = c.self.inside in
    let below = Less-from_is_lt _ (is_lt-from_partial g.met.K.Ord.matches_partial_cmp c.in-Some.first.0.now c.in-Some-last.last.0.now c.lt.result c.lt.ensures ∙ c.if-lt.true) in
    let s = steps-front g.met.K.Ord.total c.tell_well_formed.ensures.well_formed.ascends c.self.invariant.2 (ap pair_now c.in-Some.is) (ap pair_now c.in-Some-last.is) it.is_left
    below (pair_now c.next_pair-self-inside.result) (remaining_after it.tree.now c.next_pair-self-inside.new.run c.next_pair-self-inside.new.ancestors) c.next_pair-self-inside.ensures.first in
    (c.self.invariant.0, c.next_pair-self-inside.ensures.above, s.1, c.self.invariant.3, c.self.invariant.4)

pub invariant_of-self-in-Equal : goal.invariant_of-self-in-Equal
invariant_of-self-in-Equal g c = (c.self.invariant.0, c.self.invariant.1, none-ahead, c.self.invariant.3, c.self.invariant.4)

pub returns-then-lt-clause-steps : goal.returns-then-lt-clause-steps
returns-then-lt-clause-steps g c =
    let it = c.self.inside in
    let below = Less-from_is_lt _ (is_lt-from_partial g.met.K.Ord.matches_partial_cmp c.in-Some.first.0.now c.in-Some-last.last.0.now c.lt.result c.lt.ensures ∙ c.if-lt.true) in
    let s = steps-front g.met.K.Ord.total c.tell_well_formed.ensures.well_formed.ascends c.self.invariant.2 (ap pair_now c.in-Some.is) (ap pair_now c.in-Some-last.is) it.is_left
    below (pair_now c.next_pair-self-inside.result) (remaining_after it.tree.now c.next_pair-self-inside.new.run c.next_pair-self-inside.new.ancestors) c.next_pair-self-inside.ensures.first in
    rw (← c.self.view_is) s.0

pub returns-then-lt-clause-goes : goal.returns-then-lt-clause-goes
returns-then-lt-clause-goes g c =
    let it = c.self.inside in
    let below = Less-from_is_lt _ (is_lt-from_partial g.met.K.Ord.matches_partial_cmp c.in-Some.first.0.now c.in-Some-last.last.0.now c.lt.result c.lt.ensures ∙ c.if-lt.true) in
    let s = steps-front g.met.K.Ord.total c.tell_well_formed.ensures.well_formed.ascends c.self.invariant.2 (ap pair_now c.in-Some.is) (ap pair_now c.in-Some-last.is) it.is_left
    below (pair_now c.next_pair-self-inside.result) (remaining_after it.tree.now c.next_pair-self-inside.new.run c.next_pair-self-inside.new.ancestors) c.next_pair-self-inside.ensures.first in
    let fewer = ap length s.0 in
    rw (← c.self.view_is) record { on = λ finite. (tt, tt, omega arith); keeps = tt; rests = λ finite. tt }

pub returns-else-not-self-clause-steps : goal.returns-else-not-self-clause-steps
returns-else-not-self-clause-steps g c =
    let it = c.self.inside in
    rw (← c.self.view_is)
    (meets-front g.met.K.Ord.total c.tell_well_formed.ensures.well_formed.ascends c.self.invariant.2 (ap pair_now c.in-Some.is) (ap pair_now c.in-Some-last.is) it.is_left
    (let compared = c.cmp.ensures in let is = c.in-Equal.is in cc) c.if-not-self.false
    ∙ ap (λ l. (c.in-Some.first.0.now, c.in-Some.first.1.now) ∷ l) (sym (none-left g.K.Ord.cmp (pair_now it.last) it.is_left)))

pub returns-else-not-self-clause-goes : goal.returns-else-not-self-clause-goes
returns-else-not-self-clause-goes g c =
    let it = c.self.inside in
    let met = meets-front g.met.K.Ord.total c.tell_well_formed.ensures.well_formed.ascends c.self.invariant.2 (ap pair_now c.in-Some.is) (ap pair_now c.in-Some-last.is) it.is_left
    (let compared = c.cmp.ensures in let is = c.in-Equal.is in cc) c.if-not-self.false in
    let fewer = ap length met in
    let none = ap length (none-left g.K.Ord.cmp (pair_now it.last) it.is_left) in
    rw (← c.self.view_is) record { on = λ finite. (tt, tt, omega arith); keeps = tt; rests = λ finite. tt }

pub returns-then-not-self-clause-steps : goal.returns-then-not-self-clause-steps
returns-then-not-self-clause-steps g c =
    let none = meets-after g.met.K.Ord.total c.tell_well_formed.ensures.well_formed.ascends c.self.invariant.2 (ap pair_now c.in-Some.is) (ap pair_now c.in-Some-last.is) c.self.inside.is_left
    (let compared = c.cmp.ensures in let is = c.in-Equal.is in cc) c.if-not-self.true in
    rw (← c.self.view_is) (none, none)

pub returns-in-Greater-clause-steps : goal.returns-in-Greater-clause-steps
returns-in-Greater-clause-steps g c =
    let none = passes-front g.met.K.Ord.total c.tell_well_formed.ensures.well_formed.ascends c.self.invariant.2 (ap pair_now c.in-Some.is) (ap pair_now c.in-Some-last.is) c.self.inside.is_left
    (let compared = c.cmp.ensures in let is = c.in-Greater.is in cc) in
    rw (← c.self.view_is) (none, none)
