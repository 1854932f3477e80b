use Rattle.btree_map.proofs.Common.{◌≡◌, ◌∙◌, ◌++◌, ◌∷◌, [], ap, arith, false, refl, subst, sym, is_past_end, pairs_of, rises, bound_key, entry_front, left_of, passed_of, AddsNoNode}
use Rattle.std.proofs.lemmas.List.{take-append-drop}
use Rattle.btree_map.proofs.OutsideLemmas.{append-one, left-over, next-gone, none-between, not-empty}
use Rattle.btree_map.proofs.range_removal.remove_between.Goals as goal

pub rest-init : goal.rest-init
rest-init g c = record { same_map = refl; passed = refl; gone = []; left = refl; none = λ e. refl; frees = omega arith; uncounted = refl; until = tt }

pub rest-preserved : goal.rest-preserved
rest-preserved g c =
    let now = c.rest.invariant in
    let r = c.remove_next.ensures.removed c.rest-test.true in
    record {
      same_map = r.1.same_map ∙ now.same_map;
      passed = r.1.passed ∙ now.passed;
      gone = now.gone ++ r.0 ∷ [];
      left = next-gone (left_of c.entries_mut_from-pairs.result) now.gone (left_of c.rest.pairs)
          (left_of c.remove_next.new.pairs) r.0 now.left r.1.left;
      none = λ e. absurd (not-empty now.gone r.0 e);
      frees = let fewer = r.1.removed.frees.fewer in let before = now.frees in omega arith;
      uncounted = r.1.removed.uncounted ∙ now.uncounted;
      until = append-one (λ x. is_past_end g.K.Ord.cmp (bound_key c.args.end) x.0 ≡ false) now.gone r.0 now.until r.2;
    }

pub returns-clause-pairs : goal.returns-clause-pairs
returns-clause-pairs g c =
    let now = c.rest.invariant in
    let start = c.entries_mut_from-pairs.ensures in
    let stays = c.remove_next.ensures.same c.rest-test.false in
    let end = c.remove_next.new.pairs in
    ap pairs_of (c.map-1.given.1 (sym (ap (λ p. p.map.ghost_name) stays ∙ now.same_map ∙ start.same_map)))
    ∙ sym (take-append-drop (entry_front end) (pairs_of end.map.now))
    ∙ (λ i. passed_of (stays i) ++ left_of (stays i))
    ∙ ap (λ l. l ++ left_of c.rest.pairs) (now.passed ∙ start.passed)
    ∙ left-over g.met.K.Ord.total (bound_key c.args.start) (bound_key c.args.end) (pairs_of c.args.map.now) now.gone (left_of c.rest.pairs)
    (rises g.K.Ord.cmp (pairs_of c.args.map.now) c.tell_well_formed.ensures.well_formed.ascends) (sym start.left ∙ now.left) now.until
    (c.remove_next.ensures.past c.rest-test.false)

pub returns-clause-unchanged : goal.returns-clause-unchanged
returns-clause-unchanged g c same =
    let now = c.rest.invariant in
    let start = c.entries_mut_from-pairs.ensures in
    let first = c.entries_mut_from-pairs.result in
    let stays = c.remove_next.ensures.same c.rest-test.false in
    let end = c.remove_next.new.pairs in
    let state = c.map-1.given.1 (sym (ap (λ p. p.map.ghost_name) stays ∙ now.same_map ∙ start.same_map)) in
    let at_end : pairs_of end.map.now ≡ passed_of first ++ left_of c.rest.pairs =
    sym (take-append-drop (entry_front end) (pairs_of end.map.now))
    ∙ (λ i. passed_of (stays i) ++ left_of (stays i))
    ∙ ap (λ l. l ++ left_of c.rest.pairs) now.passed in
    let at_start : pairs_of c.args.map.now ≡ passed_of first ++ (now.gone ++ left_of c.rest.pairs) =
    ap pairs_of (sym start.unchanged)
    ∙ sym (take-append-drop (entry_front first) (pairs_of first.map.now))
    ∙ ap (λ l. passed_of first ++ l) now.left in
    let empty = none-between (passed_of first) now.gone (left_of c.rest.pairs) (sym at_end ∙ sym (ap pairs_of state) ∙ same ∙ at_start) in
    state ∙ ap (λ p. p.map.now) (stays ∙ now.none empty) ∙ start.unchanged

pub returns-clause-frees : goal.returns-clause-frees
returns-clause-frees g c =
    let now = c.rest.invariant in
    let start = c.entries_mut_from-pairs.ensures in
    let stays = c.remove_next.ensures.same c.rest-test.false in
    let state = c.map-1.given.1 (sym (ap (λ p. p.map.ghost_name) stays ∙ now.same_map ∙ start.same_map)) in
    subst (λ s. AddsNoNode s c.map-1.given.0) start.unchanged (subst (λ s. AddsNoNode c.entries_mut_from-pairs.result.map.now s) (sym (state ∙ ap (λ p. p.map.now) stays)) now.frees)
