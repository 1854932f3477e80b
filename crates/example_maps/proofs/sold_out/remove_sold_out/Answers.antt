use Rattle.std.proofs.Common.{◌∙◌, ◌++◌, ap, filter, sym}
use Rattle.btree_slab.specs.TreeState.{pairs_of}
use Rattle.btree_slab.specs.Editing.{entry_front, left_of, passed_of, past_first}
use Rattle.example_maps.specs.Stock.{is_in_stock}
use Rattle.example_maps.proofs.StockLemmas.{keeps-all, keeps-in_stock}
use Rattle.example_maps.proofs.sold_out.remove_sold_out.Goals as goal

pub loop-part-preserved : goal.loop-part-preserved
loop-part-preserved g c =
    let passes = c.next_pair-passed.ensures.writes c.next_pair-passed.result.1.now in
    record {
      same_map = c.loop-part.invariant.same_map;
      kept = keeps-in_stock _ (passed_of c.loop-part.parts) (left_of c.loop-part.parts)
          (passed_of (past_first c.loop-part.parts c.next_pair-passed.result.1.now))
          (left_of (past_first c.loop-part.parts c.next_pair-passed.result.1.now)) c.in-Some.part.now
          (c.next_pair-passed.result.0.now, c.next_pair-passed.result.1.now)
          c.loop-part.invariant.kept c.in-Some.ensures c.next_pair-passed.ensures.pair (λ e. c.if-value-eq0.false (c.value.ensures ∙ e))
          passes.passed passes.left;
    }

pub returns : goal.returns
returns g c =
    let start = c.entries_mut_from-parts.ensures in
    let whole = keeps-all is_in_stock _ (entry_front c.loop-part.parts) (pairs_of c.loop-part.parts.map.now)
    c.loop-part.invariant.kept c.in_default.ensures in
    ap pairs_of (c.stock-1.given.1 (sym (c.loop-part.invariant.same_map ∙ start.same_map)))
    ∙ whole ∙ (λ i. start.passed i ++ filter is_in_stock (start.left i))
