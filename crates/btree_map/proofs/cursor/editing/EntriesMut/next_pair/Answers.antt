use Rattle.btree_map.proofs.Common.{◌∙◌, ◌+◌, arith, refl, item_addresses_of, pairs_of, entry_front, item_index}
use Rattle.btree_map.specs.Editing.{next_of}
use Rattle.btree_map.proofs.CursorLemmas.{stands-next, stands-pair, stands-state, stands-written}
use Rattle.btree_map.proofs.EditingLemmas.{at-within, left-some}
use Rattle.btree_map.proofs.EditingLists.{drop-first}
use Rattle.btree_map.proofs.EditingSteps.{writes-passed}
use Rattle.btree_map.proofs.IndexLemmas.{index-is}
use Rattle.btree_map.proofs.KnownLemmas.{known-below, known-mapped, known-more, known-written}
use Rattle.btree_map.proofs.RangeStarts.{once}
use Rattle.btree_map.proofs.RangeSteps.{again-first, stands-first}
use Rattle.btree_map.proofs.SameEditing.{same_editing}
use Rattle.btree_map.proofs.ListedItems.{counted}
use Rattle.btree_map.proofs.cursor.editing.EntriesMut.next_pair.Goals as goal

pub unreachable-requires : goal.unreachable-requires
unreachable-requires g c =
    let now = c.args.self.now in
    left-some now.map.now now.first (entry_front now) now.first_stands c.in_default.is c.requires

pub one_more-self-requires : goal.one_more-self-requires
one_more-self-requires g c =
    let now = c.args.self.now in
    let s = now.map.now in
    let within = at-within s now.first (entry_front now) now.first_stands c.in-Some.at c.in-Some.is in
    known-below now.known (entry_front now) _ now.counted (omega (arith, within, counted s, c.len-len.ensures, c.len-len.type_inv))

pub invariant_of-self-2 : goal.invariant_of-self-2
invariant_of-self-2 g c =
    let now = c.args.self.now in
    let s = now.map.now in
    let list = item_addresses_of s in
    let within = at-within s now.first (entry_front now) now.first_stands c.in-Some.at c.in-Some.is in
    let next = stands-next s now.first c.in-Some.at c.in-Some.is (entry_front now) now.first_stands
    c.address_after-self.result (c.address_after-self.ensures.after (entry_front now)) in
    let place = index-is list (once g.K.Ord.cmp g.met.K.Ord.total s c.address_after-self.ensures.tree) (entry_front now + 1) c.address_after-self.result next (omega (arith, within)) in
    record {
      first_stands = stands-first list c.address_after-self.result (entry_front now + 1) next;
      counted = known-more now.known c.one_more-self.result (entry_front now) _ now.counted place c.one_more-self.ensures;
    }

pub invariant_of-self-lent : goal.invariant_of-self-lent
invariant_of-self-lent g c w =
    let now = c.args.self.now in
    let s = now.map.now in
    let list = item_addresses_of s in
    let within = at-within s now.first (entry_front now) now.first_stands c.in-Some.at c.in-Some.is in
    let next = stands-next s now.first c.in-Some.at c.in-Some.is (entry_front now) now.first_stands
    c.address_after-self.result (c.address_after-self.ensures.after (entry_front now)) in
    let place = index-is list (once g.K.Ord.cmp g.met.K.Ord.total s c.address_after-self.ensures.tree) (entry_front now + 1) c.address_after-self.result next (omega (arith, within)) in (
      again-first s c.in-Some.at w c.address_after-self.result (entry_front now + 1) next,
      (
        known-written s c.in-Some.at w c.one_more-self.result c.address_after-self.result
            (known-more now.known c.one_more-self.result (entry_front now) _ now.counted place c.one_more-self.ensures),
        tt,
      ),
    )

pub returns : goal.returns
returns g c =
    let now = c.args.self.now in
    let s = now.map.now in
    let list = item_addresses_of s in
    let unique = once g.K.Ord.cmp g.met.K.Ord.total s c.address_after-self.ensures.tree in
    let within = at-within s now.first (entry_front now) now.first_stands c.in-Some.at c.in-Some.is in
    let place = index-is list unique (entry_front now + 1) (next_of now) refl (omega (arith, within)) in
    let pair = stands-pair s now.first c.in-Some.at c.in-Some.is (entry_front now) now.first_stands _ c.pair_mut.ensures.pair in (
      (
        refl,
        λ w. same_editing now.map _ _ _ _ _ _
            (stands-state s now.first c.in-Some.at c.in-Some.is (entry_front now) now.first_stands w)
            (stands-next s now.first c.in-Some.at c.in-Some.is (entry_front now) now.first_stands
            c.address_after-self.result (c.address_after-self.ensures.after (entry_front now)))
            (c.one_more-self.ensures ∙ known-mapped now.known (entry_front now) (item_index s (next_of now)) now.counted place)
            _ _ _ _,
      ),
      record {
        writes_back = tt;
        pair = drop-first (entry_front now) (pairs_of s) ∙ pair;
        writes = λ w. writes-passed now _ _ w pair
            (stands-written s now.first c.in-Some.at c.in-Some.is (entry_front now) now.first_stands _ _ w
            c.pair_mut.ensures.pair (c.pair_mut.ensures.exchanged w))
            unique within;
      },
    )
