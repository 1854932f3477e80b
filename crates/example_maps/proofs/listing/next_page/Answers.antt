use Rattle.std.proofs.Common.{◌++◌, ◌-◌, ◌∙◌, ap, arith, take}
use Rattle.std.specs.Map.{keys_of}
use Rattle.example_maps.proofs.PageLemmas.{page-ends, page-full, page-grows}
use Rattle.example_maps.proofs.listing.next_page.Goals as goal

pub loop-left-init : goal.loop-left-init
loop-left-init c = ap (λ l. c.args.page.now.items ++ take c.args.size (keys_of l)) c.range-rest.ensures

pub returns-in_default : goal.returns-in_default
returns-in_default c = page-ends c.loop-left.page.items _ c.loop-left.left c.loop-left.rest c.loop-left.invariant c.in_default.ensures.steps.0

pub loop-left-preserved : goal.loop-left-preserved
loop-left-preserved c =
    ap (λ l. l ++ take (c.loop-left.left - 1) (keys_of c.next.new.self)) c.in_ok-push.ensures.items
    ∙ page-grows c.loop-left.page.items _ c.loop-left.left c.loop-left.rest c.loop-left.invariant c.loop-left-test.true c.in-Some.part.now c.in-Some._count.now c.next.new.self c.in-Some.ensures.steps

pub returns : goal.returns
returns c = page-full c.loop-left.page.items _ c.loop-left.left c.loop-left.rest c.loop-left.invariant (omega (arith, c.loop-left-test.false))
