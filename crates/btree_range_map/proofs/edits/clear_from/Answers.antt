use Rattle.btree_range_map.proofs.Common.{refl, subst, arith}
use Rattle.btree_range_map.proofs.ClearLemmas.{IsClearing, clearing-fits, clearing-last, clearing-more, clearing-none, clearing-past, clearing-shorter}
use Rattle.btree_range_map.proofs.KeptLemmas.{key-exchanged}
use Rattle.btree_range_map.proofs.edits.clear_from.Goals as goal

pub returns-then-end-first : goal.returns-then-end-first
returns-then-end-first g c =
    let l = subst (λ at. IsClearing c.args.map.now c.loop-at.map at c.args.start c.args.end) c.in-Some.is c.loop-at.invariant in
    clearing-past c.args.map.now c.loop-at.map c.in-Some.addr c.args.start c.args.end l _ c.pair_at.ensures (omega (arith, c.if-end-first.true))

pub replace_key_at-requires : goal.replace_key_at-requires
replace_key_at-requires g c =
    let l = subst (λ at. IsClearing c.args.map.now c.loop-at.map at c.args.start c.args.end) c.in-Some.is c.loop-at.invariant in
    clearing-fits c.args.map.now c.loop-at.map c.in-Some.addr c.args.start c.args.end l _ c.pair_at.ensures
    (omega (arith, c.if-end-first.false)) c.requires.some (omega (arith, c.if-end-last.true))

pub returns-then-end-last : goal.returns-then-end-last
returns-then-end-last g c =
    let l = subst (λ at. IsClearing c.args.map.now c.loop-at.map at c.args.start c.args.end) c.in-Some.is c.loop-at.invariant in
    clearing-last c.args.map.now c.loop-at.map c.in-Some.addr c.args.start c.args.end l _ c.pair_at.ensures
    (omega (arith, c.if-end-first.false)) c.requires.some (omega (arith, c.if-end-last.true)) c.replace_key_at.new.self _ refl
    (key-exchanged c.loop-at.map c.replace_key_at.new.self c.in-Some.addr _ _ _ _ c.pair_at.ensures c.replace_key_at.ensures)

pub loop-at-smaller : goal.loop-at-smaller
loop-at-smaller g c =
    let l = subst (λ at. IsClearing c.args.map.now c.loop-at.map at c.args.start c.args.end) c.in-Some.is c.loop-at.invariant in
    let takes = c.take_range-at.ensures l.can.place l.can.item.here.has in
    clearing-shorter c.args.map.now c.loop-at.map c.in-Some.addr c.args.start c.args.end l _ c.pair_at.ensures c.take_range-at.new.map c.take_range-at.result takes

pub loop-at-preserved : goal.loop-at-preserved
loop-at-preserved g c =
    let l = subst (λ at. IsClearing c.args.map.now c.loop-at.map at c.args.start c.args.end) c.in-Some.is c.loop-at.invariant in
    let takes = c.take_range-at.ensures l.can.place l.can.item.here.has in
    clearing-more c.args.map.now c.loop-at.map c.in-Some.addr c.args.start c.args.end l _ c.pair_at.ensures
    c.take_range-at.new.map c.take_range-at.result (omega (arith, c.if-end-last.false)) takes

pub returns : goal.returns
returns g c =
    let l = subst (λ at. IsClearing c.args.map.now c.loop-at.map at c.args.start c.args.end) c.in_default.is c.loop-at.invariant in
    clearing-none c.args.map.now c.loop-at.map c.args.start c.args.end l
