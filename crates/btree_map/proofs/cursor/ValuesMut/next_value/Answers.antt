use Rattle.btree_map.proofs.Common.{refl, ◌+◌}
use Rattle.btree_map.proofs.CursorLemmas.{stands-next, stands-pair, stands-state, stands-written, stays-first, stays-within}
use Rattle.btree_map.proofs.SameCursor.{same_values}
use Rattle.btree_map.proofs.CursorSteps.{first-value, writes-value}
use Rattle.btree_map.proofs.cursor.ValuesMut.next_value.Goals as goal

pub invariant_of-self-lent : goal.invariant_of-self-lent
invariant_of-self-lent g c w =
    let now = c.args.self.now in
    let s = now.map.now in (
      stays-first s c.in-Some.at w c.address_after-self.result (now.front + 1)
          (stands-next s now.first c.in-Some.at c.in-Some.is now.front now.first_stands
          c.address_after-self.result (c.address_after-self.ensures.after now.front)),
      (stays-within s c.in-Some.at w now.back now.within, tt),
    )

pub returns : goal.returns
returns g c =
    let now = c.args.self.now in
    let s = now.map.now in
    let pair = stands-pair s now.first c.in-Some.at c.in-Some.is now.front now.first_stands _ c.pair_mut-value.ensures.pair in (
      (
        refl,
        λ w. same_values now.map _ _ _ _ (now.front + 1) now.back
            (stands-state s now.first c.in-Some.at c.in-Some.is now.front now.first_stands w)
            (stands-next s now.first c.in-Some.at c.in-Some.is now.front now.first_stands
            c.address_after-self.result (c.address_after-self.ensures.after now.front))
            _ _ _ _,
      ),
      record {
        writes_back = tt;
        value = first-value now c.requires _ _ pair;
        writes = λ w. writes-value now c.requires _ _ pair w
            (stands-written s now.first c.in-Some.at c.in-Some.is now.front now.first_stands _ _ w
            c.pair_mut-value.ensures.pair (c.pair_mut-value.ensures.exchanged w));
      },
    )
