use Rattle.btree_internal.proofs.Common.{◌+◌, arith, ap, ◌∙◌, length, map}
use Rattle.btree_item.specs.Comparisons.{comparisons}
use Rattle.btree_item.specs.Keys.{count_below, key_place}
use Rattle.btree_item.proofs.PairLemmas.{count_below-keys_of, key_place-keys_of, slice_get-from_place, found-from_place}
use Rattle.btree_internal.proofs.BranchLemmas.{keys-branches}
use Rattle.btree_internal.proofs.internal.place.Goals as goal

pub search_counted-requires : goal.search_counted-requires
search_counted-requires g c = (omega arith, rw (keys-branches c.args.branches.now) c.requires)

pub returns-clause-place : goal.returns-clause-place
returns-clause-place g c =
    c.search_counted.ensures.place
    ∙ ap (key_place g.Q.Query.compare c.args.key.now) (keys-branches c.args.branches.now)
    ∙ key_place-keys_of g.Q.Query.compare _ _

pub returns-clause-here : goal.returns-clause-here
returns-clause-here g c = slice_get-from_place g.Q.Query.compare g.met.Q.Query.cuts c.args.key.now _ c.search_counted.result c.requires (returns-clause-place g c)

pub returns-clause-absent : goal.returns-clause-absent
returns-clause-absent g c = found-from_place g.Q.Query.compare c.args.key.now _ c.search_counted.result (returns-clause-place g c)

pub returns-clause-ticks : goal.returns-clause-ticks
returns-clause-ticks g c =
    let fits = c.search_counted.ensures.fits in
    c.search_counted.ensures.ticks (omega arith)

pub returns-clause-counted : goal.returns-clause-counted
returns-clause-counted g c =
    let bs = c.args.branches.now in
    let k = c.args.key.now in
    let smaller =
    ap (count_below g.Q.Query.compare k) (keys-branches bs) ∙ count_below-keys_of g.Q.Query.compare k (map (λ b. b.item) bs) in
    c.search_counted.ensures.counted ∙ ap (λ n. c.args.steps.now.count + comparisons (length bs) n) smaller
