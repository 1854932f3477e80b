use Rattle.btree_walk.proofs.Common.{◌-◌, arith}
use Rattle.btree_walk.proofs.FetchedLemmas.{some-get}
use Rattle.btree_walk.proofs.fetched.read_early.Goals as goal

pub unwrap-near_start-requires : goal.unwrap-near_start-requires
unwrap-near_start-requires g c =
    let n = c.len-count.ensures.value in
    let more = c.if-count-lt-MIN_ITEMS.false in
    some-get c.items-items.result.now 2 c.get.result (omega arith) c.get.ensures

pub unwrap-last-requires : goal.unwrap-last-requires
unwrap-last-requires g c =
    let n = c.len-count.ensures.value in
    let more = c.if-count-lt-MIN_ITEMS.false in
    some-get c.items-items.result.now (c.len-count.result - 1) c.get-2.result (omega arith) c.get-2.ensures
