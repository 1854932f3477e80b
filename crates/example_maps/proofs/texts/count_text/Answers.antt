use Rattle.btree_slab.specs.TreeState.{pairs_of}
use Rattle.btree_slab.specs.Queries.{by_text}
use Rattle.example_maps.proofs.TextLemmas.{counted-again, counted-first}
use Rattle.example_maps.proofs.texts.count_text.Goals as goal

pub returns-in-Some : goal.returns-in-Some
returns-in-Some g c =
    let w = c.saturating_add.result in
    let e = c.in-Some.ensures.exchanged w in
    counted-again by_text c.args.word.now 18446744073709551615 (pairs_of c.args.counts.now) _ c.in-Some.count.now w c.in-Some.ensures.value e.pairs c.saturating_add.ensures

pub returns : goal.returns
returns g c =
    counted-first c.in_ok-from_str.field-0 c.args.word.now (pairs_of c.args.counts.now) (pairs_of c.insert.new.self) c.in_ok-from_str.ensures.ok
    c.in_default.ensures.value c.in_ok-insert.ensures.inserted
