use Rattle.std.proofs.Common.{◌++◌, ◌∙◌, ap}
use Rattle.std.specs.Map.{values_of}
use Rattle.example_maps.proofs.ShelfLemmas.{shelves-end, shelves-grow, range-shelves}
use Rattle.example_maps.proofs.shelves.append_shelves.Goals as goal

pub loop-pair-init : goal.loop-pair-init
loop-pair-init g c =
    ap (λ l. c.args.found.now.items ++ values_of l) c.range_by-rest.ensures
    ∙ ap (λ l. c.args.found.now.items ++ l) (range-shelves g.K.Ord.cmp c.args.part.now c.args.shelves.now.elements)

pub loop-pair-preserved : goal.loop-pair-preserved
loop-pair-preserved g c =
    ap (λ l. l ++ values_of c.next.new.self) c.in_ok-push.ensures.items
    ∙ shelves-grow c.loop-pair.found.items _ c.loop-pair.rest c.loop-pair.invariant c.in-Some.pair.now c.next.new.self c.in-Some.ensures.steps

pub returns : goal.returns
returns g c = shelves-end c.loop-pair.found.items _ c.loop-pair.rest c.loop-pair.invariant c.in_default.ensures.steps.0
