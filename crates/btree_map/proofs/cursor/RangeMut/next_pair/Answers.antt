use Rattle.btree_map.proofs.Common.{◌∙◌, ◌+◌, refl, slice_get, item_addresses_of, prior, range_back, range_front}
use Rattle.btree_map.proofs.CursorLemmas.{stands-next, stands-pair, stands-state, stands-written}
use Rattle.btree_map.proofs.IndexLemmas.{any-front, differ-told}
use Rattle.btree_map.proofs.RangeStarts.{once}
use Rattle.btree_map.proofs.RangeSteps.{again-first, again-last, again-ordered, some-left, stands-first, writes-first-in-range}
use Rattle.btree_map.proofs.SameCursor.{same_range}
use Rattle.btree_map.proofs.cursor.RangeMut.next_pair.Goals as goal

pub invariant_of-self : goal.invariant_of-self
invariant_of-self g c =
    let now = c.args.self.now in
    let s = now.map.now in
    let tree = c.address_after-self.ensures.tree in
    let list = item_addresses_of s in
    let next = stands-next s now.first c.in-Some.at c.in-Some.is (range_front now) now.first_stands
    c.address_after-self.result (c.address_after-self.ensures.after (range_front now)) in
    record {
      first_stands = stands-first list c.address_after-self.result (range_front now + 1) next;
      last_stands = now.last_stands;
      ordered =
          c.ne-self.ensures
          ∙ differ-told now.first now.last
          ∙ any-front list (once g.K.Ord.cmp g.met.K.Ord.total s tree) now.first now.last now.first_stands now.last_stands (some-left now c.requires)
          c.address_after-self.result now.last next now.last_stands;
    }

pub invariant_of-self-lent : goal.invariant_of-self-lent
invariant_of-self-lent g c w =
    let now = c.args.self.now in
    let s = now.map.now in
    let tree = c.address_after-self.ensures.tree in
    let list = item_addresses_of s in
    let next = stands-next s now.first c.in-Some.at c.in-Some.is (range_front now) now.first_stands
    c.address_after-self.result (c.address_after-self.ensures.after (range_front now)) in (
      again-first s c.in-Some.at w c.address_after-self.result (range_front now + 1) next,
      (
        again-last s c.in-Some.at w now.last _ now.last_stands,
        (
          again-ordered s c.in-Some.at w c.ne-self.result c.address_after-self.result now.last
              (c.ne-self.ensures
              ∙ differ-told now.first now.last
              ∙ any-front list (once g.K.Ord.cmp g.met.K.Ord.total s tree) now.first now.last now.first_stands now.last_stands (some-left now c.requires)
              c.address_after-self.result now.last next now.last_stands),
          tt,
        ),
      ),
    )

pub returns : goal.returns
returns g c =
    let now = c.args.self.now in
    let s = now.map.now in
    let tree = c.address_after-self.ensures.tree in
    let list = item_addresses_of s in
    let unique = once g.K.Ord.cmp g.met.K.Ord.total s tree in
    let some = some-left now c.requires in
    let next = stands-next s now.first c.in-Some.at c.in-Some.is (range_front now) now.first_stands
    c.address_after-self.result (c.address_after-self.ensures.after (range_front now)) in
    let pair = stands-pair s now.first c.in-Some.at c.in-Some.is (range_front now) now.first_stands _ c.pair_mut.ensures.pair in (
      (
        refl,
        λ w. same_range now.map _ _ _ _ _ _ _ _
            (stands-state s now.first c.in-Some.at c.in-Some.is (range_front now) now.first_stands w)
            next now.last_stands
            (c.ne-self.ensures
            ∙ differ-told now.first now.last
            ∙ any-front list unique now.first now.last now.first_stands now.last_stands some
            (slice_get list (range_front now + 1)) (prior list (range_back now)) refl refl)
            _ _ _ _ _ _,
      ),
      record {
        writes_back = tt;
        pair = pair;
        writes = λ w. writes-first-in-range now unique some _ _ w pair
            (stands-written s now.first c.in-Some.at c.in-Some.is (range_front now) now.first_stands _ _ w
            c.pair_mut.ensures.pair (c.pair_mut.ensures.exchanged w));
      },
    )
