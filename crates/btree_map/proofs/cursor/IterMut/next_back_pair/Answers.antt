use Rattle.btree_map.proofs.Common.{refl, sym, ◌∙◌, ◌-◌, length, item_addresses_of}
use Rattle.btree_map.specs.Cursor.{less-low}
use Rattle.btree_map.proofs.CursorLemmas.{last-stands, none-last, stands-pair, stands-previous, stands-state, stands-written, stays-first, stays-last, stays-within}
use Rattle.btree_map.proofs.SameCursor.{same_cursor}
use Rattle.btree_map.proofs.CursorSteps.{writes-last}
use Rattle.btree_map.proofs.cursor.IterMut.next_back_pair.Goals as goal

pub unreachable-requires : goal.unreachable-requires
unreachable-requires g c =
    let now = c.args.self.now in
    none-last (item_addresses_of now.map.now) now.last now.front now.back c.requires now.within now.last_stands c.in_default.is

pub address_before-self-requires : goal.address_before-self-requires
address_before-self-requires g c =
    let now = c.args.self.now in
    let stands = last-stands (item_addresses_of now.map.now) now.last now.front now.back c.requires now.last_stands in
    (now.back - 1, sym stands ∙ c.in-Some.is)

pub invariant_of-self-lent : goal.invariant_of-self-lent
invariant_of-self-lent g c w =
    let now = c.args.self.now in
    let s = now.map.now in
    let stands = last-stands (item_addresses_of s) now.last now.front now.back c.requires now.last_stands in (
      stays-first s c.in-Some.at w now.first now.front now.first_stands,
      (
        stays-last s c.in-Some.at w c.address_before-self.result (now.back - 1)
            (stands-previous s now.last c.in-Some.at c.in-Some.is (now.back - 1) stands
            c.address_before-self.result (c.address_before-self.ensures.before (now.back - 1))),
        (stays-within s c.in-Some.at w (now.back - 1) (less-low now.back (length (item_addresses_of s)) now.within), tt),
      ),
    )

pub returns : goal.returns
returns g c =
    let now = c.args.self.now in
    let s = now.map.now in
    let stands = last-stands (item_addresses_of s) now.last now.front now.back c.requires now.last_stands in
    let pair = stands-pair s now.last c.in-Some.at c.in-Some.is (now.back - 1) stands _ c.pair_mut.ensures.pair in (
      (
        refl,
        λ w. same_cursor now.map _ _ _ _ _ _ now.front (now.back - 1)
            (stands-state s now.last c.in-Some.at c.in-Some.is (now.back - 1) stands w)
            refl
            (stands-previous s now.last c.in-Some.at c.in-Some.is (now.back - 1) stands
            c.address_before-self.result (c.address_before-self.ensures.before (now.back - 1)))
            _ _ _ _ _ _,
      ),
      record {
        writes_back = tt;
        pair = pair;
        writes = λ w. writes-last now c.requires _ _ w pair
            (stands-written s now.last c.in-Some.at c.in-Some.is (now.back - 1) stands _ _ w
            c.pair_mut.ensures.pair (c.pair_mut.ensures.exchanged w));
      },
    )
