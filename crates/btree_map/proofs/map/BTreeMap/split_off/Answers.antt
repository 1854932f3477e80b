use Rattle.btree_map.proofs.Common.{◌≡◌, ◌∙◌, ◌++◌, ◌∷◌, [], arith, sym, ap, subst, Included, TreeState, pairs_of, Rises, rises}
use Rattle.btree_laws.proofs.LookUp.KeyInList.{rises-right}
use Rattle.btree_map.specs.Splitting.{AreFrom}
use Rattle.btree_map.proofs.SplitLemmas.{all-kept, inserted-front, kept-before, moved-from, one-more}
use Rattle.btree_map.proofs.map.BTreeMap.split_off.Goals as goal

pub loop-last-preserved : goal.loop-last-preserved
loop-last-preserved g c =
    let held = c.loop-last.invariant in
    let cmp = g.K.Ord.cmp in
    let x : g.row.K.Denot × g.row.V.Denot = (c.in-Some.last, c.in-Some.value) in
    let left = pairs_of c.pop_from.new.map in
    let moved = pairs_of c.loop-last.other in
    let split = one-more (pairs_of c.args.self.now) (pairs_of c.loop-last.self) left moved x held.split c.in-Some.ensures.popped in
    let up = rises-right cmp left (x ∷ moved) (subst (λ l. Rises cmp l) split (rises cmp (pairs_of c.args.self.now) c.tell_well_formed.ensures.well_formed.ascends)) in
    let put : pairs_of c.insert.new.self ≡ x ∷ moved = c.in-Ok.ensures.inserted ∙ inserted-front g.met.K.Ord.total x moved up in
    record {
      uncounted = c.in-Some.ensures.uncounted ∙ held.uncounted;
      moved_uncounted = c.in-Ok.ensures.uncounted ∙ held.moved_uncounted;
      split = split ∙ ap (λ l. left ++ l) (sym put);
      from = subst (λ l. AreFrom cmp (Included c.args.key.now) l) (sym put) (c.in-Some.ensures.from, held.from);
      none = λ e. absurd (let no = sym put ∙ e in cc);
      frees = let fewer = c.pop_from.ensures.frees in let before = held.frees in omega arith;
    }

pub returns-in-Err-clause-stopped : goal.returns-in-Err-clause-stopped
returns-in-Err-clause-stopped g c =
    let x : g.row.K.Denot × g.row.V.Denot = (c.in-Some.last, c.in-Some.value) in
    let split = one-more (pairs_of c.args.self.now) (pairs_of c.loop-last.self) (pairs_of c.pop_from.new.map) (pairs_of c.loop-last.other) x c.loop-last.invariant.split c.in-Some.ensures.popped in
    rw (c.in-Err.ensures.returned.0, c.in-Err.ensures.returned.1)
    (split ∙ ap (λ l. pairs_of c.pop_from.new.map ++ x ∷ l) (sym c.in-Err.ensures.cause.leaves.pairs))

pub returns-in-Err-clause-cause : goal.returns-in-Err-clause-cause
returns-in-Err-clause-cause g c =
    record {
      before = c.loop-last.other;
      uncounted = c.loop-last.invariant.moved_uncounted ∙ ap (λ (s : TreeState _ _). s.kept) c.in_store-other.ensures.state;
      absent = rw (c.in-Err.ensures.returned.0) c.in-Err.ensures.absent;
      refused = rw (c.in-Err.ensures.returned.0) c.in-Err.ensures.cause;
    }

pub returns-clause-kept : goal.returns-clause-kept
returns-clause-kept g c =
    ap pairs_of c.in_default.ensures.unchanged
    ∙ kept-before g.met.K.Ord.total (Included c.args.key.now) (pairs_of c.args.self.now) (pairs_of c.loop-last.self) (pairs_of c.loop-last.other) c.loop-last.invariant.split c.in_default.ensures.none c.loop-last.invariant.from

pub returns-clause-moved : goal.returns-clause-moved
returns-clause-moved g c =
    moved-from g.met.K.Ord.total (Included c.args.key.now) (pairs_of c.args.self.now) (pairs_of c.loop-last.self) (pairs_of c.loop-last.other) c.loop-last.invariant.split c.in_default.ensures.none c.loop-last.invariant.from

pub returns-in-Err-clause-from : goal.returns-in-Err-clause-from
returns-in-Err-clause-from g c =
    rw (c.in-Err.ensures.returned.0)
    (c.in-Some.ensures.from, subst (λ l. AreFrom g.K.Ord.cmp (Included c.args.key.now) l) (sym c.in-Err.ensures.cause.leaves.pairs) c.loop-last.invariant.from)

pub returns-clause-unchanged : goal.returns-clause-unchanged
returns-clause-unchanged g c same =
    let held = c.loop-last.invariant in
    let stays = c.in_default.ensures.unchanged in
    let moved = pairs_of c.loop-last.other in
    let empty : moved ≡ [] = all-kept (pairs_of c.loop-last.self) moved (sym held.split ∙ sym same ∙ ap pairs_of stays) in
    stays ∙ held.none empty

pub returns-clause-frees : goal.returns-clause-frees
returns-clause-frees g c = let fewer = c.pop_from.ensures.frees in let before = c.loop-last.invariant.frees in omega arith

pub returns-in-Err-clause-frees : goal.returns-in-Err-clause-frees
returns-in-Err-clause-frees g c = let fewer = c.pop_from.ensures.frees in let before = c.loop-last.invariant.frees in omega arith
