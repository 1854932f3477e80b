use Rattle.btree_internal.proofs.Common.{◌≡◌, ◌+◌, length, map, sym, ap, ◌∙◌, arith, length-map, place_of, branch_pair, internal_view, common_steps}
use Rattle.btree_item.specs.Comparisons.{comparisons}
use Rattle.btree_item.specs.Pairs.{before}
use Rattle.btree_item.proofs.PairLemmas.{slice_get-from_place, found-from_place}
use Rattle.btree_internal.proofs.BranchLemmas.{branches_are, items_are}
use Rattle.btree_view.specs.View.{size_of}
use Rattle.btree_internal.proofs.internal.InternalNode.find_counted.Goals as goal

pub place-requires : goal.place-requires
place-requires g c = (let fits = c.well_formed in omega arith, rw (items_are c.args.self.now _ c.self.inside.first c.self.inside.branches c.self.view_is) c.requires)

pub returns-clause-place : goal.returns-clause-place
returns-clause-place g c = c.place.ensures.place ∙ ap (place_of g.Q.Query.compare c.args.key.now) (items_are c.args.self.now _ c.self.inside.first c.self.inside.branches c.self.view_is)

pub returns-clause-fits : goal.returns-clause-fits
returns-clause-fits g c =
    let long = length-map c.self.inside.branches branch_pair in
    let same = ap length (branches_are c.args.self.now _ c.self.inside.first c.self.inside.branches c.self.view_is) in
    omega (arith, long, same, c.place.ensures.fits)

pub returns-clause-here : goal.returns-clause-here
returns-clause-here g c = slice_get-from_place g.Q.Query.compare g.met.Q.Query.cuts c.args.key.now _ c.place.result c.requires (returns-clause-place g c)

pub returns-clause-absent : goal.returns-clause-absent
returns-clause-absent g c = found-from_place g.Q.Query.compare c.args.key.now _ c.place.result (returns-clause-place g c)

pub returns-clause-sized : goal.returns-clause-sized
returns-clause-sized g c = length-map c.args.self.now.branches (λ b. b.0)

pub returns-clause-within : goal.returns-clause-within
returns-clause-within g c = grind (arith, common_steps) steps 2000000

pub returns-clause-ticks : goal.returns-clause-ticks
returns-clause-ticks g c = omega (arith, c.place.ensures.ticks)

pub returns-clause-counted : goal.returns-clause-counted
returns-clause-counted g c =
    let bs = c.self.inside.branches in
    let k = c.args.key.now in
    let items = items_are c.args.self.now _ c.self.inside.first bs c.self.view_is in
    let sized : length bs ≡ size_of (internal_view c.args.self.now) = sym (length-map bs (λ b. b.item)) ∙ ap length items in
    c.place.ensures.counted
    ∙ ap (λ n. c.args.steps.now.count + comparisons n (before g.Q.Query.compare k (map (λ b. b.item) bs))) sized
    ∙ ap (λ l. c.args.steps.now.count + comparisons (size_of (internal_view c.args.self.now)) (before g.Q.Query.compare k l)) items
