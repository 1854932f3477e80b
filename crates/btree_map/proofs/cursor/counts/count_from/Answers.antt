use Rattle.btree_map.proofs.Common.{◌≡◌, ◌+◌, ap, arith, length, item_addresses_of, item_index}
use Rattle.btree_map.proofs.EditingLemmas.{at-listed, at-within}
use Rattle.btree_map.proofs.IndexLemmas.{index-is}
use Rattle.btree_map.proofs.RangeStarts.{once}
use Rattle.btree_map.proofs.RangeSteps.{stands-first}
use Rattle.btree_map.proofs.ListedItems.{counted}
use Rattle.btree_map.proofs.cursor.counts.count_from.Goals as goal

pub overflow_add-count : goal.overflow_add-count
overflow_add-count g c =
    let s = c.args.map.now in
    let l = c.loop-next in
    let within = at-within s l.next (item_index s l.next) l.invariant.stands c.in-Some.at c.in-Some.is in
    omega (arith, within, l.invariant.counted, counted s, c.len-len.ensures, c.len-len.type_inv)

pub loop-next-smaller : goal.loop-next-smaller
loop-next-smaller g c =
    let s = c.args.map.now in
    let l = c.loop-next in
    let list = item_addresses_of s in
    let within = at-within s l.next (item_index s l.next) l.invariant.stands c.in-Some.at c.in-Some.is in
    let after = c.address_after-next.ensures.after (item_index s l.next) (at-listed s l.next (item_index s l.next) l.invariant.stands c.in-Some.at c.in-Some.is) in
    let place : item_index s c.address_after-next.result ≡ item_index s l.next + 1 =
    index-is list (once g.K.Ord.cmp g.met.K.Ord.total s c.address_after-next.ensures.tree) (item_index s l.next + 1) c.address_after-next.result after (omega (arith, within)) in
    omega (arith, within, place)

pub loop-next-preserved : goal.loop-next-preserved
loop-next-preserved g c =
    let s = c.args.map.now in
    let l = c.loop-next in
    let list = item_addresses_of s in
    let within = at-within s l.next (item_index s l.next) l.invariant.stands c.in-Some.at c.in-Some.is in
    let after = c.address_after-next.ensures.after (item_index s l.next) (at-listed s l.next (item_index s l.next) l.invariant.stands c.in-Some.at c.in-Some.is) in
    let place : item_index s c.address_after-next.result ≡ item_index s l.next + 1 =
    index-is list (once g.K.Ord.cmp g.met.K.Ord.total s c.address_after-next.ensures.tree) (item_index s l.next + 1) c.address_after-next.result after (omega (arith, within)) in
    record {
      stands = stands-first list c.address_after-next.result (item_index s l.next + 1) after;
      counted = omega (arith, l.invariant.counted, place);
    }

pub returns : goal.returns
returns g c =
    let s = c.args.map.now in
    let last : item_index s c.loop-next.next ≡ length (item_addresses_of s) = ap (item_index s) c.in_default.is in
    omega (arith, c.loop-next.invariant.counted, last, counted s)
