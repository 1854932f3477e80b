-- The law of the exact refusal for an insertion by an editing cursor, `cursor-exact`, over the clauses of `EntriesMut::insert`.
-- `cursor-taken`: one that leaves few pairs is taken.
use Rattle.std.proofs.Common.{◌≡◌, ◌≤◌, ◌∙◌, ℕ, zero, suc, List, [], ◌∷◌, ◌++◌, length, take, drop, IfErr, IsSome, OnOk, Option, Some, None, Result, Ok, Err, ap, is_some, refl, subst, sym, arith}
use Rattle.std.specs.Cmp.{IsTotalOrder, tied_itself}
use Rattle.std.specs.FinMap as map
use Rattle.std.specs.List.{insert}
use Rattle.std.specs.declared.cmp.Ord as ord
use Rattle.std.specs.declared.cmp.Ordering.{Ordering}
use Rattle.std.specs.declared.cmp.PartialEq as eq
use Rattle.std.specs.declared.cmp.PartialOrd as partial
use Rattle.std.proofs.lemmas.List.{length-take-le}
use Rattle.std.proofs.lemmas.Option.{slice_get_within}
use Rattle.std.proofs.lemmas.Map.Keys.{sorted_head, sorted_tail}
use Rattle.btree_store.specs.Content.{Content}
use Rattle.btree_item.specs.Pairs.{Ascends}
use Rattle.btree_item.specs.Address.{Address}
use Rattle.btree_item.specs.declared.refused.Cause.{Cause}
use Rattle.btree_node.specs.declared.node.Node.{Node}
use Rattle.btree_node.specs.declared.node_stores.Nodes as nodes
use Rattle.btree_node.specs.declared.node_stores.NodesMut as nodes_mut
use Rattle.btree_laws.specs.TreeAddresses.{item_addresses_of, leaf_backs_of}
use Rattle.btree_laws.specs.TreeState.{TreeState, IsBTree, IsPlaceIn, pairs_of}
use Rattle.btree_laws.proofs.AddressLists.Whole.{addresses-tree}
use Rattle.btree_find.specs.Ends.{IsLeafBackAt}
use Rattle.btree_find.proofs.EndsLemmas.{leaf-back-at}
use Rattle.btree_find.proofs.PlaceLemmas.{empty-by}
use Rattle.btree_ext.specs.InsertAt.{InsertsAt, IsRefusedAt}
use Rattle.btree_map.specs.Editing.{InsertsEntry, RefusesEntry, entry_front, passed_of}
use Rattle.btree_map.specs.SpanLaws.{index-within}
use Rattle.btree_map.specs.declared.cursor.editing.EntriesMut.{EntriesMut}
use Rattle.btree_fixed.specs.Capacity.{HoldsAll, RefusesExactlyAtPlace, TakesFew}
use Rattle.btree_fixed.proofs.CapacityLaws.{leaf-back, refused-exceeds, taken-at}

module _ {X : Type 0} where
  -- a list cut at a place, with an element between the parts
  pub between-parts : (n : ℕ) (xs : List X) (x : X) → n ≤ length xs → (take n xs ++ x ∷ []) ++ drop n xs ≡ insert xs n x
  between-parts zero xs x low = refl
  between-parts (suc n) [] x low = absurd (omega arith)
  between-parts (suc n) (y ∷ xs) x low = ap (λ (l : List X). y ∷ l) (between-parts n xs x (omega arith))

  pub whole : (n : ℕ) (xs : List X) → take n xs ++ drop n xs ≡ xs
  whole zero xs = refl
  whole (suc n) [] = refl
  whole (suc n) (x ∷ xs) = ap (λ (l : List X). x ∷ l) (whole n xs)

module _ {K V : Type 0} (cmp : K → K → Ordering) (laws : IsTotalOrder cmp) where
  -- a pair stands once in a list whose keys ascend
  twice : (x y : K × V) (xs : List (K × V)) → Ascends cmp (x ∷ y ∷ xs) → x ≡ y → ⊥
  twice x y xs up same =
      let less = (sorted_head cmp x.0 (y.0 ∷ _) up).0 in
      let tied = tied_itself laws x.0 in
      absurd (cc)

  pub one-place : (xs : List (K × V)) (x : K × V) (p q : ℕ) → p ≤ length xs → q ≤ length xs → Ascends cmp (insert xs p x) → insert xs p x ≡ insert xs q x → p ≡ q
  one-place xs x zero zero p-low q-low up same = refl
  one-place [] x zero (suc q) p-low q-low up same = absurd (omega arith)
  one-place [] x (suc p) zero p-low q-low up same = absurd (omega arith)
  one-place [] x (suc p) (suc q) p-low q-low up same = absurd (omega arith)
  one-place (y ∷ ys) x zero (suc q) p-low q-low up same = let head : x ≡ y = cc in absurd (twice x y ys up head)
  one-place (y ∷ ys) x (suc p) zero p-low q-low up same =
      let head : x ≡ y = cc in
      absurd (twice x y ys (subst (Ascends cmp) same up) head)
  one-place (y ∷ ys) x (suc p) (suc q) p-low q-low up same =
      let rest : insert ys p x ≡ insert ys q x = cc in
      ap suc (one-place ys x p q (omega arith) (omega arith) (sorted_tail cmp y.0 _ up) rest)

-- an insertion by an address: the back address in a leaf by which it went
module _ {K V : Type 0} (cmp : K → K → Ordering) (laws : IsTotalOrder cmp) (old new : TreeState K V) (tree : IsBTree cmp old) (a b : Address) (x : K × V)
    (i : InsertsAt old new a cmp b x) where
  offset-by : (root : Option ℕ) → old.root ≡ root → IsSome i.leaf.offset
  offset-by None is = ap is_some (empty-by cmp laws old tree i.leaf i.leaf_for.valid is i.leaf_for.valid).2
  offset-by (Some root) is = ap is_some (i.inserted.split root is).offset

  leaf-at : IsLeafBackAt old i.place i.leaf
  leaf-at =
      let same = i.has.only i.leaf_for.place i.leaf_for.has.at in
      leaf-back-at cmp laws old tree i.leaf i.place (subst (IsPlaceIn old i.leaf) same i.leaf_for.there.at) i.leaf_for.in_leaf (offset-by old.root refl)

  place-within : i.place ≤ length (pairs_of old)
  place-within =
      let low = slice_get_within (leaf_backs_of old) i.place i.leaf leaf-at.listed in
      let counted = (addresses-tree cmp laws old tree).leaf_backs.counted in
      omega arith

module _ {K V C O : Type 0} {g : ord.Ghosts K} {g' : eq.Ghosts K} {g'' : partial.Ghosts K} {s : nodes_mut.Ghosts C K V O} {s' : nodes.Ghosts C K V}
    (old : EntriesMut K V C O g g' g'' s s') (laws : IsTotalOrder g.cmp) (tree : IsBTree g.cmp old.map.now) where
  front-within : entry_front old ≤ length (pairs_of old.map.now)
  front-within =
      let low = index-within (item_addresses_of old.map.now) old.first in
      let counted = (addresses-tree g.cmp laws old.map.now tree).items.counted in
      omega arith

  -- the place of a cursor is how many pairs it has passed
  pub front-passed : entry_front old ≡ length (passed_of old)
  front-passed = sym (length-take-le (entry_front old) (pairs_of old.map.now) front-within)

module _ {K V C O : Type 0} {g : ord.Ghosts K} {g' : eq.Ghosts K} {g'' : partial.Ghosts K} {s : nodes_mut.Ghosts C K V O} {s' : nodes.Ghosts C K V}
    (old new : EntriesMut K V C O g g' g'' s s') (capacity : ℕ) {E : Type 0} (cause_of : E → Cause)
    (laws : IsTotalOrder g.cmp) (tree : IsBTree g.cmp old.map.now) (table : s.MayRefuse ≡ HoldsAll capacity) where
  -- an insertion by the cursor was done at its place
  module _ (x : K × V) (i : InsertsEntry old new x) where
    cut-there : insert (pairs_of old.map.now) i.inserts.place x ≡ insert (pairs_of old.map.now) (entry_front old) x
    cut-there =
        sym i.inserts.pairs
        ∙ sym (whole (entry_front new) (pairs_of new.map.now))
        ∙ (λ j. i.passed j ++ i.left j)
        ∙ between-parts (entry_front old) (pairs_of old.map.now) x (front-within old laws tree)

    at-front : i.inserts.place ≡ entry_front old
    at-front =
        one-place g.cmp laws (pairs_of old.map.now) x i.inserts.place (entry_front old)
        (place-within g.cmp laws old.map.now new.map.now tree i.gap i.at x i.inserts) (front-within old laws tree)
        (subst (Ascends g.cmp) i.inserts.pairs i.inserts.inserted.tree.ascends) cut-there

  -- the refusal of an insertion by the cursor, by the cause in the error
  abbrev pub RefusedCursor : {X : Type 0} → Result X E → Type 0
  RefusedCursor result = IfErr result (λ e. RefusesEntry old new (cause_of e))

  refused-at : (cause : Cause) (r : RefusesEntry old new cause) → IsRefusedAt old.map.now new.map.now r.gap (HoldsAll capacity) cause
  refused-at cause r =
      subst (λ (may_refuse : Content (Node K V) → Type 0). IsRefusedAt old.map.now new.map.now r.gap may_refuse cause) table r.refused

  pub cursor-exact : {X : Type 0} (x : K × V) (result : Result X E) → OnOk result (InsertsEntry old new x) → RefusedCursor result
      → map.len new.map.now.nodes ≤ capacity → RefusesExactlyAtPlace old.map.now (entry_front old) capacity result
  cursor-exact x (Ok y) inserted refused held = λ below. record {
    leaf = inserted.inserts.leaf;
    is_leaf = subst (λ n. IsLeafBackAt old.map.now n inserted.inserts.leaf) (at-front x inserted)
        (leaf-at g.cmp laws old.map.now new.map.now tree inserted.gap inserted.at x inserted.inserts);
    exactly = (λ err. absurd (cc), λ exceeds. absurd (let more = inserted.inserts.inserted.nodes in omega arith));
  }
  cursor-exact x (Err e) inserted refused held = λ below.
      let r = refused-at (cause_of e) refused in
      record {
        leaf = r.leaf;
        is_leaf = leaf-back g.cmp laws old.map.now tree refused.gap refused.back r.leaf r.leaf_for (entry_front old) refused.has;
        exactly = (λ err. refused-exceeds old.map.now new.map.now capacity r.leaf.id (cause_of e) r.refused below, λ exceeds. refl);
      }

  pub cursor-taken : {X : Type 0} (result : Result X E) → RefusedCursor result → TakesFew old.map.now capacity result
  cursor-taken (Ok y) refused = λ few below. refl
  cursor-taken {X} (Err e) refused =
      taken-at g.cmp old.map.now new.map.now refused.gap capacity cause_of {X = X} refused.tree (Err e) (refused-at (cause_of e) refused)
