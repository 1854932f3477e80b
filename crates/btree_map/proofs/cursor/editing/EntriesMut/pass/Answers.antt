use Rattle.btree_map.proofs.Common.{◌≡◌, ◌∙◌, ◌+◌, ◌∷◌, ap, arith, drop, refl, sym, take, item_addresses_of, pairs_of, entry_front, item_index}
use Rattle.btree_map.proofs.EditingLemmas.{at-within, left-some}
use Rattle.btree_map.proofs.EditingLists.{pass-cut}
use Rattle.btree_map.proofs.IndexLemmas.{index-is}
use Rattle.btree_map.proofs.KnownLemmas.{known-below, known-more}
use Rattle.btree_map.proofs.RangeStarts.{once}
use Rattle.btree_map.proofs.RangeSteps.{stands-first}
use Rattle.btree_map.proofs.ListedItems.{counted}
use Rattle.btree_map.proofs.cursor.editing.EntriesMut.pass.Goals as goal

pub unreachable-requires : goal.unreachable-requires
unreachable-requires g c =
    let now = c.args.self.now in
    left-some now.map.now now.first (entry_front now) now.first_stands c.in_default.is c.requires

pub one_more-self-requires : goal.one_more-self-requires
one_more-self-requires g c =
    let now = c.args.self.now in
    let s = now.map.now in
    let within = at-within s now.first (entry_front now) now.first_stands c.in-Some.at c.in-Some.is in
    known-below now.known (entry_front now) _ now.counted (omega (arith, within, counted s, c.len-len.ensures, c.len-len.type_inv))

pub invariant_of-self-2 : goal.invariant_of-self-2
invariant_of-self-2 g c =
    let now = c.args.self.now in
    let s = now.map.now in
    let list = item_addresses_of s in
    let within = at-within s now.first (entry_front now) now.first_stands c.in-Some.at c.in-Some.is in
    let next = c.address_after-self.ensures.after (entry_front now) (sym now.first_stands ∙ c.in-Some.is) in
    let place = index-is list (once g.K.Ord.cmp g.met.K.Ord.total s c.address_after-self.ensures.tree) (entry_front now + 1) c.address_after-self.result next (omega (arith, within)) in
    record {
      first_stands = stands-first list c.address_after-self.result (entry_front now + 1) next;
      counted = known-more now.known c.one_more-self.result (entry_front now) _ now.counted place c.one_more-self.ensures;
    }

pub returns : goal.returns
returns g c =
    let now = c.args.self.now in
    let s = now.map.now in
    let list = item_addresses_of s in
    let within = at-within s now.first (entry_front now) now.first_stands c.in-Some.at c.in-Some.is in
    let next = c.address_after-self.ensures.after (entry_front now) (sym now.first_stands ∙ c.in-Some.is) in
    let place : item_index s c.address_after-self.result ≡ entry_front now + 1 =
    index-is list (once g.K.Ord.cmp g.met.K.Ord.total s c.address_after-self.ensures.tree) (entry_front now + 1) c.address_after-self.result next (omega (arith, within)) in
    let cut = pass-cut (entry_front now) (pairs_of s) c.requires in (
      cut.0,
      record {
        same_map = refl;
        unchanged = refl;
        passed = ap (λ n. take n (pairs_of s)) place ∙ cut.1;
        left = cut.2 ∙ ap (λ n. cut.0 ∷ drop n (pairs_of s)) (sym place);
      },
    )
