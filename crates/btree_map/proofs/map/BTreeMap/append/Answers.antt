use Rattle.btree_map.proofs.Common.{◌≡◌, ◌∙◌, ◌∷◌, [], ap, sym, rules, inserted, pairs_of, inserted_all}
use Rattle.btree_laws.specs.TreeState.{with_limit}
use Rattle.btree_find.specs.CallerLaws.{none-first}
use Rattle.btree_map.proofs.ExtensionLemmas.{all-into-none, first-and-rest}
use Rattle.btree_map.proofs.map.BTreeMap.append.Goals as goal

pub returns-then-len-limit-clause-appended : goal.returns-then-len-limit-clause-appended
returns-then-len-limit-clause-appended g c =
    let empty : pairs_of c.args.self.now ≡ [] = search rules in
    let all = all-into-none g.K.Ord.cmp (pairs_of c.args.other.now) c.tell_well_formed.ensures.well_formed.ascends in
    ap pairs_of c.swap.ensures.swapped ∙ ap pairs_of c.other.view_is ∙ sym all ∙ sym (ap (λ l. inserted_all g.K.Ord.cmp l (pairs_of c.args.other.now)) empty)

pub returns-then-len-limit-clause-swapped : goal.returns-then-len-limit-clause-swapped
returns-then-len-limit-clause-swapped g c = λ room some. (
  c.swap.ensures.swapped ∙ (λ i. with_limit (c.other.view_is i) (c.self.view_is i).kept.limit),
  c.swap.ensures.other_swapped ∙ (λ i. with_limit (c.self.view_is i) (c.other.view_is i).kept.limit),
)

pub loop-key-preserved : goal.loop-key-preserved
loop-key-preserved g c =
    let all = inserted_all g.K.Ord.cmp in
    let x : g.row.K.Denot × g.row.V.Denot = (c.in-Some.key, c.in-Some.value) in
    let rest = pairs_of c.pop_first.new.self in
    let is : pairs_of c.insert.new.self ≡ inserted g.K.Ord.cmp c.in-Some.key c.in-Some.value (pairs_of c.loop-key.self) = c.in-Ok.ensures.inserted in
    let listed = first-and-rest (pairs_of c.loop-key.other) rest x c.in-Some.ensures.pair c.in-Some.ensures.removed.pairs in (
      c.in-Ok.ensures.uncounted ∙ c.loop-key.invariant.0,
      c.in-Some.ensures.removed.removed.uncounted ∙ c.loop-key.invariant.1,
      ap (λ l. all l rest) is ∙ sym (ap (all (pairs_of c.loop-key.self)) listed) ∙ c.loop-key.invariant.2,
      λ y n t h. c.loop-key.invariant.3 y n t (record {
        given = x ∷ h.given;
        split = listed ∙ ap (λ l. x ∷ l) h.split;
        pairs = h.pairs ∙ ap (λ l. all l h.given) is;
      }),
    )

pub returns-in-Err-clause-stopped : goal.returns-in-Err-clause-stopped
returns-in-Err-clause-stopped g c =
    let cause = c.in-Err.ensures.cause in
    let x : g.row.K.Denot × g.row.V.Denot = (c.in-Some.key, c.in-Some.value) in
    let rest = pairs_of c.pop_first.new.self in
    rw (c.in-Err.ensures.returned.0, c.in-Err.ensures.returned.1)
    (c.loop-key.invariant.3 x (pairs_of c.insert.new.self) rest (record {
      given = [];
      split = first-and-rest (pairs_of c.loop-key.other) rest x c.in-Some.ensures.pair c.in-Some.ensures.removed.pairs;
      pairs = cause.leaves.pairs;
    }))

pub returns-in-Err-clause-cause : goal.returns-in-Err-clause-cause
returns-in-Err-clause-cause g c =
    record {
      before = c.loop-key.self;
      uncounted = c.loop-key.invariant.0;
      absent = rw (c.in-Err.ensures.returned.0) c.in-Err.ensures.absent;
      refused = rw (c.in-Err.ensures.returned.0) c.in-Err.ensures.cause;
    }

pub returns-clause-appended : goal.returns-clause-appended
returns-clause-appended g c =
    let none = none-first (pairs_of c.loop-key.other) c.in_default.ensures.pair in
    sym (ap (inserted_all g.K.Ord.cmp (pairs_of c.loop-key.self)) none) ∙ c.loop-key.invariant.2

pub returns-clause-emptied : goal.returns-clause-emptied
returns-clause-emptied g c =
    ap pairs_of c.in_default.ensures.unchanged ∙ none-first (pairs_of c.loop-key.other) c.in_default.ensures.pair
