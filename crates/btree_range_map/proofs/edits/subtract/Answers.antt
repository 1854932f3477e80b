use Rattle.btree_range_map.proofs.Common.{arith, inr, pairs_of, EndsBy}
use Rattle.btree_range_map.proofs.ClearLemmas.{clear-found, clear-gap}
use Rattle.btree_range_map.proofs.CutLemmas.{cut-can, cut-fails, shorten-can, shorten-then}
use Rattle.btree_range_map.proofs.PlaceLemmas.{before-read, cuts-one, ends-none, ends-some}
use Rattle.btree_range_map.proofs.edits.subtract.Goals as goal
use Rattle.btree_range_map.proofs.edits.subtract.Goals.{in-Some+else-end-last+else-start-last, in_default}

pub clear_from-requires-clause-from : goal.clear_from-requires-clause-from
clear_from-requires-clause-from g c = clear-found c.args.map.now c.args.start c.in-Ok.at c.in-Ok.ensures c.requires.runs

pub cut-requires : goal.cut-requires
cut-requires g c =
    rw (c.requires.clones _ _ c.in-Ok-clone.ensures.cases)
    (cut-can c.args.map.now c.in-Err.gap c.in-Some.before c.args.start c.args.end _ c.in-Err.ensures
    c.in-Some.ensures c.pair_at.ensures c.requires.some (omega (arith, c.if-end-last.true)) c.requires.runs)

pub returns-then-end-last-clause-cuts_one : goal.returns-then-end-last-clause-cuts_one
returns-then-end-last-clause-cuts_one g c =
    let s = c.args.map.now in
    let f = c.in-Err.ensures.fits in
    let there = before-read s c.in-Err.gap c.args.start f.place f.has f.fits c.in-Some.before _ c.in-Some.ensures c.pair_at.ensures in
    cuts-one c.cut.result (pairs_of s) c.args.start c.args.end there.0 _ c.requires.some there.3 there.4 (omega (arith, c.if-end-last.true))

pub returns-in-Err-clone-clause-cuts_one : goal.returns-in-Err-clone-clause-cuts_one
returns-in-Err-clone-clause-cuts_one g c =
    (cut-fails g.V.Clone.is_infallible c.args.map.now c.in-Err.gap c.in-Some.before c.args.start c.args.end _ c.in-Err.ensures
    c.in-Some.ensures c.pair_at.ensures c.requires.some (omega (arith, c.if-end-last.true)) c.in-Err-clone.ensures.cases).cut

pub returns-in-Err-clone-clause-cause : goal.returns-in-Err-clone-clause-cause
returns-in-Err-clone-clause-cause g c =
    inr (cut-fails _ c.args.map.now c.in-Err.gap c.in-Some.before c.args.start c.args.end _ c.in-Err.ensures
    c.in-Some.ensures c.pair_at.ensures c.requires.some (omega (arith, c.if-end-last.true)) c.in-Err-clone.ensures.cases)

pub clear_from-requires-then-start-last-clause-from : goal.clear_from-requires-then-start-last-clause-from
clear_from-requires-then-start-last-clause-from g c =
    let f = c.in-Err.ensures.fits in
    shorten-can c.args.map.now c.set_end.new.map c.in-Err.gap c.in-Some.before c.args.start c.args.end f.place _
    f.has f.fits c.requires.runs c.in-Some.ensures c.pair_at.ensures c.requires.some (omega (arith, c.if-start-last.true))
    c.set_end.ensures c.normalize-after.result c.normalize-after.ensures

pub returns-then-start-last-clause-cleared : goal.returns-then-start-last-clause-cleared
returns-then-start-last-clause-cleared g c =
    let f = c.in-Err.ensures.fits in
    shorten-then c.args.map.now c.set_end.new.map c.in-Err.gap c.in-Some.before c.args.start c.args.end f.place _
    f.has f.fits c.requires.runs c.in-Some.ensures c.pair_at.ensures c.requires.some (omega (arith, c.if-start-last.true))
    c.set_end.ensures (omega (arith, c.if-end-last.false)) c.clear_from-then-start-last.new.map c.clear_from-then-start-last.ensures

pub clear_from-requires-2-clause-from : goal.clear_from-requires-2-clause-from
clear_from-requires-2-clause-from g c =
    let s = c.args.map.now in
    let f = c.in-Err.ensures.fits in
    let ends : EndsBy (pairs_of s) f.place c.args.start =
    elim c.match-previous_item_address.branch [
      | in-Some+else-end-last+else-start-last w ↦
          let low = w.if-start-last.false in
          ends-some s c.in-Err.gap c.args.start f.place f.has f.fits w.in-Some.before _ c.args.start w.in-Some.ensures
          w.pair_at.ensures (omega (arith, low))
      | in_default w ↦ ends-none s c.in-Err.gap c.args.start f.place f.has f.fits c.args.start w.in_default.ensures
    ] in
    clear-gap s c.in-Err.gap c.args.start f.place f.has f.fits c.normalize-after-2.result c.normalize-after-2.ensures ends c.requires.runs
