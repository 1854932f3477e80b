-- The index of a child in its parent, into which an item and a child are inserted there.
use Rattle.btree_raw.proofs.Common.{◌≡◌, ℕ, ◌+◌, ◌<◌, ◌≤◌, true, inl, inr, List, [], ◌∷◌, length, slice_get, Option, Some, None, IsSome, IsTrue, refl, sym, ap, subst, ◌∙◌, option_map, arith, length-map, Content, Node, is_internal, with_item, view_of, View, leaf, internal, children_of, most_of, size_of, times_listed, views, same-or, AddsSeparator, AddsItem, CanAddItem, one-other, other-test}
use Rattle.std.proofs.Common.{◌==◌, get_or}
use Rattle.std.proofs.lemmas.Bool.Decides.{nat_tests}
use Rattle.std.proofs.lemmas.Iterator.Adapters.{position_from-zero}
use Rattle.std.proofs.lemmas.List.Quantifiers.{position-Some}
use Rattle.std.proofs.lemmas.Option.{slice_get-get_or}
use Rattle.std.specs.FinMap as map
use Rattle.std.specs.List.{position, position_from}
use Rattle.btree_raw.specs.Steps.{CanAddSeparator}
use Rattle.btree_laws.proofs.Places.Untouched.{same-test}

are-equal : (m n : ℕ) → (m == n) ≡ true → m ≡ n
are-equal m n e = grind (arith, nat_tests)

index-from : (id n : ℕ) (ids : List ℕ) → 0 < times_listed id ids → IsSome (position_from (λ child. child == id) n ids)
index-from id n [] some = absurd (omega arith)
index-from id n (x ∷ ids) some = elim (same-or x id) [
  | inl e ↦ rw (same-test x id e) refl
  | inr ne ↦ rw (other-test x id ne) (index-from id (n + 1) ids (omega (arith, one-other id x (λ e. ne (sym e)))))
]

-- the search for a listed number finds an index
pub has-index : (id : ℕ) (ids : List ℕ) (o : Option ℕ) → 0 < times_listed id ids → o ≡ position (λ child. child == id) ids → IsSome o
has-index id ids o some is = rw (is ∙ position_from-zero (λ child. child == id) ids) (index-from id 0 ids some)

-- an index that the search finds is that of the number
pub index-is : (id i : ℕ) (ids : List ℕ) → position (λ child. child == id) ids ≡ Some i → (i < length ids) × (slice_get ids i ≡ Some id)
index-is id i ids is =
    let p = position-Some (λ child. child == id) ids i id is in
    (p.0, slice_get-get_or ids i id p.0 ∙ ap Some (are-equal (get_or ids i id) id p.1))

pub one-more : {A : Type 0} (v : View A) → IsTrue (is_internal v) → (length (children_of v) ≡ size_of v + 1) × (most_of v ≡ 7)
one-more (leaf parent items) inner = absurd (cc)
one-more {A} (internal parent first bs) inner = (let a = length-map {A = A × ℕ} {B = A} bs (λ b. b.0) in let b = length-map {A = A × ℕ} {B = ℕ} bs (λ b. b.1) in omega arith, refl)

module _ {K V : Type 0} (nodes : Content (Node K V)) (above id : ℕ) (can : CanAddSeparator (views nodes) above id) where
  pub above-used : IsSome (map.get nodes above)
  above-used = at (map.get nodes above) can.here
    where
      at : (o : Option (Node K V)) → option_map view_of o ≡ Some can.node → IsSome o
      at None e = absurd (cc)
      at (Some node) e = refl

  module _ (node : Node K V) (at : map.get nodes above ≡ Some node) where
    view-is : view_of node ≡ can.node
    view-is = let here : views nodes above ≡ Some (view_of node) = ap (option_map view_of) at in let was = can.here in cc

    module _ (o : Option ℕ) (is : o ≡ position (λ child. child == id) (children_of (view_of node))) where
      pub child-there : IsSome o
      child-there = has-index id (children_of (view_of node)) o (rw view-is can.child) is

      module _ (index : ℕ) (found : o ≡ Some index) where
        child-at : (index < length (children_of can.node)) × (slice_get (children_of can.node) index ≡ Some id)
        child-at = index-is id index (children_of can.node) (subst (λ v. position (λ child. child == id) (children_of v) ≡ Some index) view-is (sym is ∙ found))

        pub index-few : index ≤ 8
        index-few = let k = one-more can.node can.inner in let k0 = k.0 in let k1 = k.1 in let l = child-at.0 in let r = can.room in omega arith

        pub can-add : (right : ℕ) → CanAddItem (views nodes) above index (Some right)
        can-add right = record {
          node = can.node;
          here = can.here;
          room = can.room;
          within = let k = (one-more can.node can.inner).0 in let l = child-at.0 in omega arith;
          kind = sym can.inner;
        }

        pub inserts : (new : Content (Node K V)) (x : K × V) (right : ℕ) → AddsItem (views nodes) (views new) above index x (Some right) → AddsSeparator (views nodes) (views new) above id right index x
        inserts new x right added = record {
          node = can.node;
          here = can.here;
          child = child-at.1;
          writes_node = record { here = added.here ∙ ap (option_map (with_item index x (Some right))) can.here; others = added.others };
        }
