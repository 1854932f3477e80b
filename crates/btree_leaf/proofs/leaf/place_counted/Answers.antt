use Rattle.btree_leaf.proofs.Common.{◌∙◌, ap, length}
use Rattle.std.proofs.Common.{◌+◌}
use Rattle.btree_item.specs.Comparisons.{comparisons}
use Rattle.btree_item.proofs.PairLemmas.{count_below-keys_of, key_place-keys_of, slice_get-from_place, found-from_place}
use Rattle.btree_leaf.proofs.leaf.place_counted.Goals as goal

pub returns-clause-place : goal.returns-clause-place
returns-clause-place g c = c.search_counted.ensures.place ∙ key_place-keys_of g.Q.Query.compare _ _

pub returns-clause-here : goal.returns-clause-here
returns-clause-here g c =
    let place = c.search_counted.ensures.place ∙ key_place-keys_of g.Q.Query.compare c.args.key.now c.args.items.now in
    slice_get-from_place g.Q.Query.compare g.met.Q.Query.cuts c.args.key.now c.args.items.now c.search_counted.result c.requires place

pub returns-clause-absent : goal.returns-clause-absent
returns-clause-absent g c =
    let place = c.search_counted.ensures.place ∙ key_place-keys_of g.Q.Query.compare c.args.key.now c.args.items.now in
    found-from_place g.Q.Query.compare c.args.key.now c.args.items.now c.search_counted.result place

pub returns-clause-ticks : goal.returns-clause-ticks
returns-clause-ticks g c = c.search_counted.ensures.ticks c.search_counted.ensures.fits

pub returns-clause-counted : goal.returns-clause-counted
returns-clause-counted g c =
    let xs = c.args.items.now in
    let k = c.args.key.now in
    c.search_counted.ensures.counted
    ∙ ap (λ n. c.args.steps.now.count + comparisons (length xs) n) (count_below-keys_of g.Q.Query.compare k xs)
