use Rattle.btree_map.proofs.Common.{◌≡◌, ◌∙◌, ◌∷◌, ap, drop, refl, sym, take, item_addresses_of, pairs_of, entry_front, item_index}
use Rattle.btree_map.proofs.EditingLemmas.{at-listed, at-there, at-valid, past-empty, remove-left, remove-next, remove-passed, remove-within}
use Rattle.btree_map.proofs.IndexLemmas.{index-is}
use Rattle.btree_map.proofs.KnownLemmas.{known-same}
use Rattle.btree_map.proofs.RangeStarts.{once}
use Rattle.btree_map.proofs.RangeSteps.{stands-first}
use Rattle.btree_map.proofs.SameEditing.{same_editing}
use Rattle.btree_map.proofs.cursor.editing.EntriesMut.remove.Goals as goal

pub returns-in_default-clause-none : goal.returns-in_default-clause-none
returns-in_default-clause-none g c =
    let now = c.args.self.now in
    past-empty now.map.now now.first (entry_front now) now.first_stands c.in_default.is

pub returns-in_default-clause-unchanged : goal.returns-in_default-clause-unchanged
returns-in_default-clause-unchanged g c = same_editing c.args.self.now.map _ _ _ _ _ _ refl refl refl _ _ _ _

pub remove_at-requires : goal.remove_at-requires
remove_at-requires g c =
    let now = c.args.self.now in
    at-valid now.map.now now.first (entry_front now) now.first_stands c.in-Some.at c.in-Some.is

pub unreachable-requires : goal.unreachable-requires
unreachable-requires g c =
    let now = c.args.self.now in
    at-there now.map.now now.first (entry_front now) now.first_stands c.in-Some.at c.in-Some.is
    c.in_default-remove_at.ensures.vacant

pub invariant_of-self : goal.invariant_of-self
invariant_of-self g c =
    let now = c.args.self.now in
    let new = c.remove_at.new.self in
    let r = c.in-Some-remove_at.ensures.removed in
    let listed = at-listed now.map.now now.first (entry_front now) now.first_stands c.in-Some.at c.in-Some.is in
    let next = remove-next now.map.now new (entry_front now) c.in-Some.at c.in-Some-remove_at.after c.in-Some-remove_at.item r listed
    c.normalize-self.result c.normalize-self.ensures in
    let low = remove-within now.map.now new (entry_front now) c.in-Some.at c.in-Some-remove_at.after c.in-Some-remove_at.item r listed in
    let place = index-is (item_addresses_of new) (once g.K.Ord.cmp g.met.K.Ord.total new r.tree) (entry_front now) c.normalize-self.result next low in
    record {
      first_stands = stands-first (item_addresses_of new) c.normalize-self.result (entry_front now) next;
      counted = known-same now.known (entry_front now) _ now.counted place;
    }

pub returns-clause-removed : goal.returns-clause-removed
returns-clause-removed g c =
    let now = c.args.self.now in
    let new = c.remove_at.new.self in
    let x = c.in-Some-remove_at.item in
    let r = c.in-Some-remove_at.ensures.removed in
    let listed = at-listed now.map.now now.first (entry_front now) now.first_stands c.in-Some.at c.in-Some.is in
    let next = remove-next now.map.now new (entry_front now) c.in-Some.at c.in-Some-remove_at.after x r listed
    c.normalize-self.result c.normalize-self.ensures in
    let low = remove-within now.map.now new (entry_front now) c.in-Some.at c.in-Some-remove_at.after x r listed in
    let place : item_index new c.normalize-self.result ≡ entry_front now =
    index-is (item_addresses_of new) (once g.K.Ord.cmp g.met.K.Ord.total new r.tree) (entry_front now) c.normalize-self.result next low in
    record {
      same_map = refl;
      passed = ap (λ n. take n (pairs_of new)) place
          ∙ remove-passed now.map.now new (entry_front now) c.in-Some.at c.in-Some-remove_at.after x r listed;
      left = remove-left now.map.now new (entry_front now) c.in-Some.at c.in-Some-remove_at.after x r listed
          ∙ ap (λ n. x ∷ drop n (pairs_of new)) (sym place);
      at = c.in-Some.at;
      after = c.in-Some-remove_at.after;
      removed = r;
    }
