-- The list of the back addresses of a tree: each is in it once, and in order.
use Rattle.btree_laws.proofs.Common.{◌≡◌, ◌∷◌, ◌+◌, ◌∙◌, [], ℕ, zero, suc, inl, true, List, length, Option, Some, None, refl, sym, ap, subst, arith, length-append, slice_get, is_some, NodeMap, backs_under, IsPlaced, IsPlacedUnder, numbers_of, IsBack, IsWithin, total, Subtree, items_under, later_items, numbers_under, Position, branch_key, branch_positions, positions_from, positions}
use Rattle.btree_laws.specs.AddressLaws.{ListsBacks}
use Rattle.btree_laws.proofs.AddressLists.OfPositions.{back-positions, keep_back}
use Rattle.btree_laws.proofs.Trees.Density.{nodes_in}
use Rattle.btree_laws.proofs.Places.HasPlace.{has_place}
use Rattle.btree_laws.proofs.AddressLists.Kept.{kept, kept-append}
use Rattle.btree_laws.proofs.AddressLists.KeptOrder.{branch-sum, kept-order, numbers-counted, numbers-once, valid-within}
use Rattle.btree_laws.proofs.Paths.Frames.{total-ones}
use Rattle.btree_laws.proofs.Trees.Numbers.{used-some}
use Rattle.btree_laws.proofs.AddressLists.OnePlaceEach.{addressed-kept, kept-addressed, ticks_of, as-subtree}
use Rattle.btree_laws.proofs.Trees.Stores.{within-used}

-- a row has one more than its entries and what is below them
module _ {A : Type 0} where
  node_positions-length : {X : Type 0} (key : X → A) (below : X → List (Position A)) (id offset : ℕ) (xs : List X)
      → length (kept keep_back (positions_from key below id offset xs)) ≡ suc (total (λ x. suc (length (kept keep_back (below x)))) xs)
  node_positions-length key below id offset [] = refl
  node_positions-length key below id offset (x ∷ xs) =
      let e = ap length (kept-append keep_back (below x) (positions_from key below id (suc offset) xs)) in
      let l = length-append (kept keep_back (below x)) (kept keep_back (positions_from key below id (suc offset) xs)) in
      let r = node_positions-length key below id (suc offset) xs in
      omega arith

module _ (A : Type 0) where
  -- as many as items and nodes
  back-length : (h : ℕ) (t : Subtree A h) → length (kept keep_back (positions A h t)) ≡ length (items_under A h t) + nodes_in A h t
  back-length zero t =
      let r = node_positions-length {A = A} {X = A} (λ x. x) (λ x. []) t.0 0 t.1 in
      let s = total-ones t.1 in
      omega arith
  back-length (suc h) t =
      let e = ap length (kept-append keep_back (positions A h t.1) (positions_from (branch_key A h) (branch_positions A h) t.0 0 t.2)) in
      let l =
      length-append (kept keep_back (positions A h t.1)) (kept keep_back (positions_from (branch_key A h) (branch_positions A h) t.0 0 t.2)) in
      let r = node_positions-length (branch_key A h) (branch_positions A h) t.0 0 t.2 in
      let f = back-length h t.1 in
      let b = branch-sum A keep_back h (back-length h) t.2 in
      let i = length-append (items_under A h t.1) (later_items A h t.2) in
      omega arith

module _ {A : Type 0} (node_at : NodeMap A) where
  is-back : (offset : Option ℕ) → is_some offset ≡ true → IsBack node_at offset
  is-back None e = absurd (cc)
  is-back (Some o) e = tt

  back-is : (offset : Option ℕ) → IsBack node_at offset → is_some offset ≡ true
  back-is None b = absurd b
  back-is (Some o) b = refl

  module _ (levels root : ℕ) (xs : List A) (p : IsPlaced node_at levels root xs) where
    backs-placed : ListsBacks node_at (Some root) xs (backs_under node_at levels (Some root)) (numbers_under node_at p.rooted.height root)
    backs-placed =
        let t = as-subtree node_at levels root xs p in
        let ts : List (Position A) = ticks_of node_at levels root xs p t in
        let e : backs_under node_at levels (Some root) ≡ kept keep_back ts =
        subst (λ i. backs_under node_at levels (Some i) ≡ kept keep_back ts) t.here
        (back-positions node_at p.rooted.height levels None t.subtree p.low t.holds) in
        record {
          used = p.rooted.once;
          counted =
              let l = ap length e in
              let b = back-length A p.rooted.height t.subtree in
              let n = numbers-counted node_at levels root xs p t in
              let i = ap length t.list in
              omega arith;
          right = λ i a at.
              let r = kept-addressed node_at levels root xs p t keep_back i a (ap (λ l. slice_get l i) (sym e) ∙ at) in
              (valid-within node_at root a.id a.offset (r.is None tt).valid, is-back a.offset r.keeps);
          each = λ a l b.
              let u = used-some (node_at a.id) (within-used node_at (node_at a.id) a.offset l) in
              let w = has_place node_at root p.rooted.height xs p.rooted.represents p.rooted.once a.id u.0 a.offset u.1
              (subst (λ v. IsWithin node_at v a.offset) u.1 l) in
              let r =
              addressed-kept node_at levels root xs p t keep_back None a w.0 (λ item m. back-is a.offset b)
              (record { valid = inl l; at_place = w.1; item = tt }) in
              (r.index, ap (λ l. slice_get l r.index) e ∙ r.at);
          order = kept-order node_at levels root xs p t keep_back (backs_under node_at levels (Some root)) e;
        }

  not-within : ((n : ℕ) → node_at n ≡ None) → (id : ℕ) (offset : Option ℕ) → IsWithin node_at (node_at id) offset → ⊥
  not-within none id offset l = subst (λ v. IsWithin node_at v offset) (none id) l

  -- the law of the list, for each tree whose addresses have one place each
  pub backs-listed : (levels : ℕ) (root : Option ℕ) (xs : List A) (p : IsPlacedUnder node_at levels root xs)
      → ListsBacks node_at root xs (backs_under node_at levels root) (numbers_of node_at levels root xs p)
  backs-listed levels None xs p = record {
    used = numbers-once node_at levels None xs p;
    counted = let e = ap length p.1 in omega arith;
    right = λ i a at. absurd (cc);
    each = λ a l b. absurd (not-within p.0 a.id a.offset l);
    order = record {
      once = λ i j a e f. absurd (cc);
      rising = λ i j a b m n l e f k q. absurd (cc);
      placed = λ i a e. absurd (cc);
    };
  }
  backs-listed levels (Some root) xs p = backs-placed levels root xs p
