use Rattle.std.proofs.Common.{ℕ, suc, sym, ◌∙◌, arith}
use Rattle.btree_slab.specs.TreeState.{item_of}
use Rattle.btree_slab.specs.FindLaws.{next-place, pair-read}
use Rattle.example_maps.proofs.BookingLemmas.{counted-all, counted-none, counted-one}
use Rattle.example_maps.proofs.bookings.count_overlaps.Goals as goal
use Rattle.example_maps.proofs.bookings.count_overlaps.Goals.{then-ends-start, else-ends-start}

pub loop-step-init : goal.loop-step-init
loop-step-init c =
    let first = c.first_candidate-next.ensures in
    record { place = first.place; item = first.item; counted = sym (first.none_before c.args.end); passed = omega arith; few = omega arith }

pub returns-then-begins-end : goal.returns-then-begins-end
returns-then-begins-end c =
    let s = c.args.bookings.now in
    let i = c.loop-step.invariant in
    let x : ℕ × ℕ = (c.pair_at.result.0.now, c.pair_at.result.1.now) in
    let here = pair-read s i.place c.loop-step.next c.in-Some.addr i.item c.in-Some.is x (sym {a = item_of s c.in-Some.addr} c.pair_at.ensures) in
    counted-all s c.args.start c.requires c.args.end c.loop-step.count i.place x here i.counted (omega arith)

pub loop-step-preserved : goal.loop-step-preserved
loop-step-preserved c =
    let s = c.args.bookings.now in
    let i = c.loop-step.invariant in
    let x : ℕ × ℕ = (c.pair_at.result.0.now, c.pair_at.result.1.now) in
    let here = pair-read s i.place c.loop-step.next c.in-Some.addr i.item c.in-Some.is x (sym {a = item_of s c.in-Some.addr} c.pair_at.ensures) in
    let item = next-place s i.place c.loop-step.next c.next_item_address-next.result c.in-Some.addr i.item c.in-Some.is c.next_item_address-next.ensures in
    elim c.if-ends-start.branch [
      | then-ends-start w ↦ record {
        place = suc i.place;
        item = item;
        counted = w.count-is ∙ counted-one s c.args.start c.requires c.args.end c.loop-step.count i.place x here i.counted (omega arith) (omega arith);
        passed = omega arith;
        few = omega arith;
      }
      | else-ends-start w ↦ record {
        place = suc i.place;
        item = item;
        counted = w.count-is ∙ counted-none s c.args.start c.requires c.args.end c.loop-step.count i.place x here i.counted (omega arith);
        passed = omega arith;
        few = omega arith;
      }
    ]
