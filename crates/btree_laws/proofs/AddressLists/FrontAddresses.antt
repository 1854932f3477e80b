-- The list of the front addresses of a tree: each is in it once, and in order.
use Rattle.btree_laws.proofs.Common.{◌≡◌, ◌≤◌, ◌∷◌, ◌+◌, ◌∙◌, [], ℕ, zero, suc, inl, inr, true, List, length, Option, Some, None, refl, sym, ap, subst, arith, length-append, slice_get_cases, slice_get_within, slice_get, is_some, NodeMap, View, item_in, items_of, fronts_under, IsFront, IsPlaced, IsPlacedUnder, numbers_of, IsAddressed, IsPlace, IsWithin, total, Subtree, items_under, later_items, numbers_under, IsExpected, Position, branch_key, branch_positions, positions_from, positions}
use Rattle.btree_laws.specs.AddressLaws.{ListsFronts}
use Rattle.btree_laws.proofs.AddressLists.OfPositions.{front-positions, is_front, keep_front}
use Rattle.btree_laws.proofs.Trees.Density.{nodes_in}
use Rattle.btree_laws.proofs.Places.HasPlace.{has_place}
use Rattle.btree_laws.proofs.AddressLists.Kept.{IndexOf, kept, kept-append}
use Rattle.btree_laws.proofs.AddressLists.KeptOrder.{branch-sum, kept-order, numbers-counted, numbers-once, valid-within}
use Rattle.btree_laws.proofs.Paths.Frames.{total-ones}
use Rattle.btree_laws.proofs.Trees.Numbers.{used-some}
use Rattle.btree_laws.proofs.AddressLists.OnePlaceEach.{AsSubtree, addressed-kept, kept-addressed, ticks_of, as-subtree}
use Rattle.btree_laws.proofs.Trees.Stores.{within-used}

-- a row has as many as its entries and what is below them
module _ {A : Type 0} where
  node_positions-length : {X : Type 0} (key : X → A) (below : X → List (Position A)) (id offset : ℕ) (xs : List X)
      → length (kept keep_front (positions_from key below id offset xs)) ≡ total (λ x. suc (length (kept keep_front (below x)))) xs
  node_positions-length key below id offset [] = refl
  node_positions-length key below id offset (x ∷ xs) =
      let e = ap length (kept-append keep_front (below x) (positions_from key below id (suc offset) xs)) in
      let l = length-append (kept keep_front (below x)) (kept keep_front (positions_from key below id (suc offset) xs)) in
      let r = node_positions-length key below id (suc offset) xs in
      omega arith

module _ (A : Type 0) where
  -- as many as items and nodes
  front-length : (h : ℕ) (t : Subtree A h) → length (kept keep_front (positions A h t)) ≡ length (items_under A h t) + nodes_in A h t
  front-length zero t =
      let r = node_positions-length {A = A} {X = A} (λ x. x) (λ x. []) t.0 0 t.1 in
      let s = total-ones t.1 in
      omega arith
  front-length (suc h) t =
      let e = ap length (kept-append keep_front (positions A h t.1) (positions_from (branch_key A h) (branch_positions A h) t.0 0 t.2)) in
      let l =
      length-append (kept keep_front (positions A h t.1)) (kept keep_front (positions_from (branch_key A h) (branch_positions A h) t.0 0 t.2)) in
      let r = node_positions-length (branch_key A h) (branch_positions A h) t.0 0 t.2 in
      let f = front-length h t.1 in
      let b = branch-sum A keep_front h (front-length h) t.2 in
      let i = length-append (items_under A h t.1) (later_items A h t.2) in
      omega arith

module _ {A : Type 0} (node_at : NodeMap A) where
  within-front : (v : Option (View A)) → IsWithin node_at v None → IsFront node_at v None
  within-front None l = l
  within-front (Some v) l = tt

  item-front : (v : Option (View A)) (o : ℕ) (x : A) → item_in v o ≡ Some x → IsFront node_at v (Some o)
  item-front None o x e = absurd (cc)
  item-front (Some v) o x e = slice_get_within (items_of v) o x e

  -- an address that is a front is within its node
  pub front-within : (v : Option (View A)) (offset : Option ℕ) → IsFront node_at v offset → IsWithin node_at v offset
  front-within None offset l = l
  front-within (Some v) None l = tt
  front-within (Some v) (Some o) l = omega arith

  front-item : (v : Option (View A)) (o : ℕ) → IsFront node_at v (Some o) → (x : A) × (item_in v o ≡ Some x)
  front-item None o l = absurd l
  front-item (Some v) o l = elim (slice_get_cases (items_of v) o).1 [
    | inl c ↦ (c.0, c.2)
    | inr c ↦ (let k : length (items_of v) ≤ o = c.0 in absurd (omega arith))
  ]

  module _ (levels root : ℕ) (xs : List A) (p : IsPlaced node_at levels root xs) where
    -- what is kept is before the end of its node
    is-front : (t : AsSubtree node_at levels root xs p) (id : ℕ) (offset : Option ℕ) (item : Option A) → is_front offset item ≡ true
        → ((expected : Option A) → IsExpected expected item → (place : ℕ) × IsAddressed A node_at root xs expected (record { id = id; offset = offset }) place)
        → IsFront node_at (node_at id) offset
    is-front t id None item k d = within-front (node_at id) (valid-within node_at root id None (d None tt).1.valid)
    is-front t id (Some o) None k d = absurd (cc)
    is-front t id (Some o) (Some x) k d = item-front (node_at id) o x (d (Some x) refl).1.item

    -- each front address is kept, by the item at its offset
    front-kept : (t : AsSubtree node_at levels root xs p) (id : ℕ) (offset : Option ℕ) (place : ℕ) → IsFront node_at (node_at id) offset
        → IsPlace node_at (Some root) xs id offset place
        → IndexOf keep_front (ticks_of node_at levels root xs p t) (record { id = id; offset = offset }) place
    front-kept t id None place l w =
        addressed-kept node_at levels root xs p t keep_front None (record { id = id; offset = None }) place (λ item m. refl)
        (record { valid = inl (front-within (node_at id) None l); at_place = w; item = tt })
    front-kept t id (Some o) place l w =
        let x = front-item (node_at id) o l in
        addressed-kept node_at levels root xs p t keep_front (Some x.0) (record { id = id; offset = Some o }) place
        (λ item m. ap is_some m)
        (record { valid = inl (front-within (node_at id) (Some o) l); at_place = w; item = x.1 })

    fronts-placed : ListsFronts node_at (Some root) xs (fronts_under node_at levels (Some root)) (numbers_under node_at p.rooted.height root)
    fronts-placed =
        let t = as-subtree node_at levels root xs p in
        let ts : List (Position A) = ticks_of node_at levels root xs p t in
        let e : fronts_under node_at levels (Some root) ≡ kept keep_front ts =
        subst (λ i. fronts_under node_at levels (Some i) ≡ kept keep_front ts) t.here
        (front-positions node_at p.rooted.height levels None t.subtree p.low t.holds) in
        record {
          used = p.rooted.once;
          counted =
              let l = ap length e in
              let b = front-length A p.rooted.height t.subtree in
              let n = numbers-counted node_at levels root xs p t in
              let i = ap length t.list in
              omega arith;
          right = λ i a at.
              let r = kept-addressed node_at levels root xs p t keep_front i a (ap (λ l. slice_get l i) (sym e) ∙ at) in
              is-front t a.id a.offset r.item r.keeps (λ expected m. (_, r.is expected m));
          each = λ a f.
              let l = front-within (node_at a.id) a.offset f in
              let u = used-some (node_at a.id) (within-used node_at (node_at a.id) a.offset l) in
              let w = has_place node_at root p.rooted.height xs p.rooted.represents p.rooted.once a.id u.0 a.offset u.1
              (subst (λ v. IsWithin node_at v a.offset) u.1 l) in
              let r = front-kept t a.id a.offset w.0 f w.1 in
              (r.index, ap (λ l. slice_get l r.index) e ∙ r.at);
          order = kept-order node_at levels root xs p t keep_front (fronts_under node_at levels (Some root)) e;
        }

  not-front : ((n : ℕ) → node_at n ≡ None) → (id : ℕ) (offset : Option ℕ) → IsFront node_at (node_at id) offset → ⊥
  not-front none id offset l = subst (λ v. IsFront node_at v offset) (none id) l

  -- the law of the list, for each tree whose addresses have one place each
  pub fronts-listed : (levels : ℕ) (root : Option ℕ) (xs : List A) (p : IsPlacedUnder node_at levels root xs)
      → ListsFronts node_at root xs (fronts_under node_at levels root) (numbers_of node_at levels root xs p)
  fronts-listed levels None xs p = record {
    used = numbers-once node_at levels None xs p;
    counted = let e = ap length p.1 in omega arith;
    right = λ i a at. absurd (cc);
    each = λ a l. absurd (not-front p.0 a.id a.offset l);
    order = record {
      once = λ i j a e f. absurd (cc);
      rising = λ i j a b m n l e f k q. absurd (cc);
      placed = λ i a e. absurd (cc);
    };
  }
  fronts-listed levels (Some root) xs p = fronts-placed levels root xs p
