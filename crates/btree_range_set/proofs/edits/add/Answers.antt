use Rattle.btree_range_set.proofs.Common.{arith, pairs_of, EndsBefore, StartsAfter}
use Rattle.btree_range_set.proofs.JoinLemmas.{join-after, join-before, join-found, joined-wider, put-done}
use Rattle.btree_range_set.proofs.PlaceLemmas.{ends-none, ends-some, starts-none, starts-some}
use Rattle.btree_range_set.proofs.RunLemmas.{joins-none}
use Rattle.btree_range_set.proofs.edits.add.Goals as goal
use Rattle.btree_range_set.proofs.edits.add.Goals.{in-Some+else-start-last, in_default, in-Some-normalize+else-first-end, in_default-normalize}

pub join-requires : goal.join-requires
join-requires g c = join-found c.args.map.now c.args.start c.args.end c.in-Ok.at c.in-Ok.ensures c.requires.runs c.requires.some

pub join-requires-then-start-last : goal.join-requires-then-start-last
join-requires-then-start-last g c =
    let f = c.in-Err.ensures.fits in
    join-before c.args.map.now c.in-Err.gap c.args.start c.args.end f.place f.has f.fits c.requires.runs c.requires.some c.in-Some.before _
    c.in-Some.ensures c.pair_at.ensures

pub returns-then-start-last-clause-joined : goal.returns-then-start-last-clause-joined
returns-then-start-last-clause-joined g c =
    let f = c.in-Err.ensures.fits in
    joined-wider c.args.map.now c.in-Err.gap c.args.start c.args.end f.place f.has f.fits c.requires.runs c.requires.some c.in-Some.before _
    c.in-Some.ensures c.pair_at.ensures
    c.join-then-start-last.new.map (omega (arith, c.if-start-last.true)) c.join-then-start-last.ensures

pub join-requires-then-first-end : goal.join-requires-then-first-end
join-requires-then-first-end g c =
    let s = c.args.map.now in
    let gap = c.in-Err.gap in
    let f = c.in-Err.ensures.fits in
    let ends : EndsBefore (pairs_of s) f.place c.args.start =
    elim c.match-previous_item_address.branch [
      | in-Some+else-start-last w ↦
          ends-some s gap c.args.start f.place f.has f.fits w.in-Some.before _ c.args.start w.in-Some.ensures w.pair_at.ensures (omega (arith, w.if-start-last.false))
      | in_default w ↦ ends-none s gap c.args.start f.place f.has f.fits c.args.start w.in_default.ensures
    ] in
    join-after s gap c.args.start c.args.end f.place f.has f.fits c.requires.runs c.requires.some c.in-Some-normalize.after _
    c.in-Some-normalize.ensures c.pair_at-in-Some-normalize.ensures (omega (arith, c.if-first-end.true)) ends

pub returns-in-Ok-insert_at-clause-joined : goal.returns-in-Ok-insert_at-clause-joined
returns-in-Ok-insert_at-clause-joined g c =
    let s = c.args.map.now in
    let gap = c.in-Err.gap in
    let f = c.in-Err.ensures.fits in
    let ends : EndsBefore (pairs_of s) f.place c.args.start =
    elim c.match-previous_item_address.branch [
      | in-Some+else-start-last w ↦
          ends-some s gap c.args.start f.place f.has f.fits w.in-Some.before _ c.args.start w.in-Some.ensures w.pair_at.ensures (omega (arith, w.if-start-last.false))
      | in_default w ↦ ends-none s gap c.args.start f.place f.has f.fits c.args.start w.in_default.ensures
    ] in
    let starts : StartsAfter (pairs_of s) f.place c.args.end =
    elim c.match-normalize.branch [
      | in-Some-normalize+else-first-end w ↦
          starts-some s gap c.args.start f.place f.has f.fits w.in-Some-normalize.after _ c.args.end w.in-Some-normalize.ensures
          w.pair_at-in-Some-normalize.ensures (omega (arith, w.if-first-end.false))
      | in_default-normalize w ↦ starts-none s gap c.args.start f.place f.has f.fits c.args.end w.in_default-normalize.ensures
    ] in
    put-done s gap c.args.start c.args.end f.place f.has f.fits c.requires.runs c.requires.some c.insert_at.new.self c.in-Ok-insert_at._at ends starts
    (rw c.new.ensures at c.in-Ok-insert_at.ensures.inserted)

pub returns-in-Err-insert_at-clause-joins_none : goal.returns-in-Err-insert_at-clause-joins_none
returns-in-Err-insert_at-clause-joins_none g c =
    let s = c.args.map.now in
    let gap = c.in-Err.gap in
    let f = c.in-Err.ensures.fits in
    let ends : EndsBefore (pairs_of s) f.place c.args.start =
    elim c.match-previous_item_address.branch [
      | in-Some+else-start-last w ↦
          ends-some s gap c.args.start f.place f.has f.fits w.in-Some.before _ c.args.start w.in-Some.ensures w.pair_at.ensures (omega (arith, w.if-start-last.false))
      | in_default w ↦ ends-none s gap c.args.start f.place f.has f.fits c.args.start w.in_default.ensures
    ] in
    let starts : StartsAfter (pairs_of s) f.place c.args.end =
    elim c.match-normalize.branch [
      | in-Some-normalize+else-first-end w ↦
          starts-some s gap c.args.start f.place f.has f.fits w.in-Some-normalize.after _ c.args.end w.in-Some-normalize.ensures
          w.pair_at-in-Some-normalize.ensures (omega (arith, w.if-first-end.false))
      | in_default-normalize w ↦ starts-none s gap c.args.start f.place f.has f.fits c.args.end w.in_default-normalize.ensures
    ] in
    record { some = c.requires.some; apart = joins-none 0 (pairs_of s) f.place c.args.start c.args.end c.requires.runs f.fits.within ends starts }
