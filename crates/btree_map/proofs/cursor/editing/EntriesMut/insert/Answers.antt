use Rattle.btree_map.proofs.Common.{◌≡◌, ◌∙◌, ◌+◌, arith, refl, take, drop, ap, item_addresses_of, pairs_of, entry_front, index-within, item_index}
use Rattle.btree_map.proofs.EditingLemmas.{insert-left, insert-next, insert-passed, insert-within, fits-at}
use Rattle.btree_map.proofs.IndexLemmas.{index-is}
use Rattle.btree_map.proofs.KnownLemmas.{known-below, known-more}
use Rattle.btree_map.proofs.RangeStarts.{once}
use Rattle.btree_map.proofs.RangeSteps.{stands-first}
use Rattle.btree_map.proofs.ListedItems.{counted}
use Rattle.btree_map.proofs.cursor.editing.EntriesMut.insert.Goals as goal

pub one_more-self-requires : goal.one_more-self-requires
one_more-self-requires g c =
    let now = c.args.self.now in
    let i = c.in-Ok.ensures.inserted in
    let low = index-within (item_addresses_of now.map.now) now.first in
    let more = insert-within now.map.now c.insert_at.new.self (entry_front now) c.gap-gap.result c.in-Ok.at _ i c.gap-gap.ensures.has low in
    known-below now.known (entry_front now) _ now.counted (omega (
      arith,
      more,
      counted c.insert_at.new.self,
      c.len-len.ensures,
      c.len-len.type_inv,
    ))

pub invariant_of-self : goal.invariant_of-self
invariant_of-self g c =
    let now = c.args.self.now in
    let new = c.insert_at.new.self in
    let list = item_addresses_of new in
    let i = c.in-Ok.ensures.inserted in
    let low = index-within (item_addresses_of now.map.now) now.first in
    let next = insert-next now.map.now new (entry_front now) c.gap-gap.result c.in-Ok.at _ i c.gap-gap.ensures.has low
    c.next_item_address-self.result c.next_item_address-self.ensures in
    let more = insert-within now.map.now new (entry_front now) c.gap-gap.result c.in-Ok.at _ i c.gap-gap.ensures.has low in
    let place = index-is list (once g.K.Ord.cmp g.met.K.Ord.total new i.inserted.tree) (entry_front now + 1) c.next_item_address-self.result next more in
    record {
      first_stands = stands-first list c.next_item_address-self.result (entry_front now + 1) next;
      counted = known-more now.known c.one_more-self.result (entry_front now) _ now.counted place c.one_more-self.ensures;
    }

pub returns-in-Ok-clause-inserted : goal.returns-in-Ok-clause-inserted
returns-in-Ok-clause-inserted g c =
    let now = c.args.self.now in
    let new = c.insert_at.new.self in
    let list = item_addresses_of new in
    let i = rw c.new.ensures at c.in-Ok.ensures.inserted in
    let low = index-within (item_addresses_of now.map.now) now.first in
    let next = insert-next now.map.now new (entry_front now) c.gap-gap.result c.in-Ok.at _ i c.gap-gap.ensures.has low
    c.next_item_address-self.result c.next_item_address-self.ensures in
    let more = insert-within now.map.now new (entry_front now) c.gap-gap.result c.in-Ok.at _ i c.gap-gap.ensures.has low in
    let place : item_index new c.next_item_address-self.result ≡ entry_front now + 1 =
    index-is list (once g.K.Ord.cmp g.met.K.Ord.total new i.inserted.tree) (entry_front now + 1) c.next_item_address-self.result next more in
    record {
      same_map = refl;
      passed = ap (λ n. take n (pairs_of new)) place
          ∙ insert-passed now.map.now new (entry_front now) c.gap-gap.result c.in-Ok.at _ i c.gap-gap.ensures.has low;
      left = ap (λ n. drop n (pairs_of new)) place
          ∙ insert-left now.map.now new (entry_front now) c.gap-gap.result c.in-Ok.at _ i c.gap-gap.ensures.has low;
      gap = c.gap-gap.result;
      at = c.in-Ok.at;
      inserts = i;
    }

pub insert_at-requires : goal.insert_at-requires
insert_at-requires g c = let now = c.args.self.now in record { valid = c.gap-gap.ensures.valid; back = c.gap-gap.ensures.back; fits = rw c.new.ensures (fits-at now.map.now c.args.key c.gap-gap.result (entry_front now) c.gap-gap.ensures.has (index-within (item_addresses_of now.map.now) now.first) c.requires) }

pub returns-in-Err-clause-returned : goal.returns-in-Err-clause-returned
returns-in-Err-clause-returned g c = let is = c.in-Err.ensures.returned ∙ c.new.ensures in (ap (λ (p : g.row.K.Denot × g.row.V.Denot). p.0) is, ap (λ (p : g.row.K.Denot × g.row.V.Denot). p.1) is)
