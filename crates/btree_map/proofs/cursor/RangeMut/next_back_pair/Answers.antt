use Rattle.btree_map.proofs.Common.{◌∙◌, ◌-◌, refl, slice_get, item_addresses_of, prior, range_back, range_front}
use Rattle.btree_map.proofs.CursorLemmas.{last-stands, stands-pair, stands-previous, stands-state, stands-written}
use Rattle.btree_map.proofs.IndexLemmas.{any-back, differ-told}
use Rattle.btree_map.proofs.RangeStarts.{once}
use Rattle.btree_map.proofs.RangeSteps.{again-first, again-last, again-ordered, some-left, stands-last, writes-last-in-range}
use Rattle.btree_map.proofs.SameCursor.{same_range}
use Rattle.btree_map.proofs.cursor.RangeMut.next_back_pair.Goals as goal

pub invariant_of-self : goal.invariant_of-self
invariant_of-self g c =
    let now = c.args.self.now in
    let s = now.map.now in
    let tree = c.address_before-self.ensures.tree in
    let list = item_addresses_of s in
    let some = some-left now c.requires in
    let stands = last-stands list now.last (range_front now) (range_back now) some now.last_stands in
    let previous = stands-previous s now.last c.in-Some.at c.in-Some.is (range_back now - 1) stands
    c.address_before-self.result (c.address_before-self.ensures.before (range_back now - 1)) in
    record {
      first_stands = now.first_stands;
      last_stands = stands-last list c.address_before-self.result (range_back now - 1) previous;
      ordered =
          c.ne-self.ensures
          ∙ differ-told now.first now.last
          ∙ any-back list (once g.K.Ord.cmp g.met.K.Ord.total s tree) now.first now.last now.first_stands now.last_stands some
          now.first c.address_before-self.result now.first_stands previous;
    }

pub invariant_of-self-lent : goal.invariant_of-self-lent
invariant_of-self-lent g c w =
    let now = c.args.self.now in
    let s = now.map.now in
    let tree = c.address_before-self.ensures.tree in
    let list = item_addresses_of s in
    let some = some-left now c.requires in
    let stands = last-stands list now.last (range_front now) (range_back now) some now.last_stands in
    let previous = stands-previous s now.last c.in-Some.at c.in-Some.is (range_back now - 1) stands
    c.address_before-self.result (c.address_before-self.ensures.before (range_back now - 1)) in (
      again-first s c.in-Some.at w now.first (range_front now) now.first_stands,
      (
        again-last s c.in-Some.at w c.address_before-self.result (range_back now - 1) previous,
        (
          again-ordered s c.in-Some.at w c.ne-self.result now.first c.address_before-self.result
              (c.ne-self.ensures
              ∙ differ-told now.first now.last
              ∙ any-back list (once g.K.Ord.cmp g.met.K.Ord.total s tree) now.first now.last now.first_stands now.last_stands some
              now.first c.address_before-self.result now.first_stands previous),
          tt,
        ),
      ),
    )

pub returns : goal.returns
returns g c =
    let now = c.args.self.now in
    let s = now.map.now in
    let tree = c.address_before-self.ensures.tree in
    let list = item_addresses_of s in
    let unique = once g.K.Ord.cmp g.met.K.Ord.total s tree in
    let some = some-left now c.requires in
    let stands = last-stands list now.last (range_front now) (range_back now) some now.last_stands in
    let previous = stands-previous s now.last c.in-Some.at c.in-Some.is (range_back now - 1) stands
    c.address_before-self.result (c.address_before-self.ensures.before (range_back now - 1)) in
    let pair = stands-pair s now.last c.in-Some.at c.in-Some.is (range_back now - 1) stands _ c.pair_mut.ensures.pair in (
      (
        refl,
        λ w. same_range now.map _ _ _ _ _ _ _ _
            (stands-state s now.last c.in-Some.at c.in-Some.is (range_back now - 1) stands w)
            now.first_stands previous
            (c.ne-self.ensures
            ∙ differ-told now.first now.last
            ∙ any-back list unique now.first now.last now.first_stands now.last_stands some
            (slice_get list (range_front now)) (prior list (range_back now - 1)) refl refl)
            _ _ _ _ _ _,
      ),
      record {
        writes_back = tt;
        pair = pair;
        writes = λ w. writes-last-in-range now unique some _ _ w pair
            (stands-written s now.last c.in-Some.at c.in-Some.is (range_back now - 1) stands _ _ w
            c.pair_mut.ensures.pair (c.pair_mut.ensures.exchanged w));
      },
    )
