use Rattle.btree_map.proofs.Common.{◌∙◌, refl, entry_front, pairs_of}
use Rattle.btree_map.proofs.CursorLemmas.{stands-pair, stands-state, stands-written}
use Rattle.btree_map.proofs.EditingLemmas.{at-occupied, left-some}
use Rattle.btree_map.proofs.EditingLists.{drop-first}
use Rattle.btree_map.proofs.EditingSteps.{writes-peeked}
use Rattle.btree_map.proofs.KnownLemmas.{known-written}
use Rattle.btree_map.proofs.RangeSteps.{again-first}
use Rattle.btree_map.proofs.SameEditing.{same_editing}
use Rattle.btree_map.proofs.cursor.editing.EntriesMut.peek_pair.Goals as goal

pub unreachable-requires : goal.unreachable-requires
unreachable-requires g c =
    let now = c.args.self.now in
    left-some now.map.now now.first (entry_front now) now.first_stands c.in_default.is c.requires

pub pair_mut-requires : goal.pair_mut-requires
pair_mut-requires g c =
    let now = c.args.self.now in
    at-occupied now.map.now now.first (entry_front now) now.first_stands c.in-Some.at c.in-Some.is

pub invariant_of-self-lent : goal.invariant_of-self-lent
invariant_of-self-lent g c w =
    let now = c.args.self.now in (
      again-first now.map.now c.in-Some.at w now.first (entry_front now) now.first_stands,
      (known-written now.map.now c.in-Some.at w now.known now.first now.counted, tt),
    )

pub returns : goal.returns
returns g c =
    let now = c.args.self.now in
    let s = now.map.now in
    let pair = stands-pair s now.first c.in-Some.at c.in-Some.is (entry_front now) now.first_stands _ c.pair_mut.ensures.pair in (
      (
        refl,
        λ w. same_editing now.map _ _ _ _ _ _
            (stands-state s now.first c.in-Some.at c.in-Some.is (entry_front now) now.first_stands w)
            refl
            refl
            _ _ _ _,
      ),
      record {
        writes_back = tt;
        pair = drop-first (entry_front now) (pairs_of s) ∙ pair;
        writes = λ w. writes-peeked now _ _ w pair
            (stands-written s now.first c.in-Some.at c.in-Some.is (entry_front now) now.first_stands _ _ w
            c.pair_mut.ensures.pair (c.pair_mut.ensures.exchanged w));
      },
    )
