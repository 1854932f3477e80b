-- The list of the occupied addresses of a tree: each is at the index that is its place. Navigation and cursors will
-- cite it.
use Rattle.btree_laws.proofs.Common.{◌≡◌, ◌<◌, ◌≤◌, ◌∙◌, ◌∷◌, [], ℕ, zero, suc, inl, inr, true, List, length, Option, Some, None, refl, sym, ap, subst, arith, option_and_then, slice_get_cases, slice_get_within, AllByRecursion, slice_get, is_some, Address, NodeMap, View, item_in, items_of, IsPlaced, IsPlacedUnder, IsEnd, IsPlace, IsPlaceOf, item_at, Subtree, Position, branch_key, branch_positions, positions_from, positions}
use Rattle.btree_laws.specs.Addresses.{item_addresses_under}
use Rattle.btree_laws.specs.AddressLaws.{ListsItems}
use Rattle.btree_laws.specs.Place.{IsOccupied}
use Rattle.btree_laws.proofs.Places.Words.{item-within}
use Rattle.btree_laws.proofs.AddressLists.OfPositions.{item-positions, keep_item}
use Rattle.btree_laws.proofs.AddressLists.Kept.{Strung, kept, strung-append}
use Rattle.btree_laws.proofs.AddressLists.OnePlaceEach.{AsSubtree, addressed-strung, strung-addressed, strung-counted, ticks_of, as-subtree}

-- between two items of the positions there is one occupied address
module _ {A : Type 0} where
  items-strung : {X : Type 0} (key : X → A) (below : X → List (Position A)) (id offset : ℕ) (xs : List X)
      → AllByRecursion (λ x. Strung keep_item 0 (below x) 0) xs → Strung keep_item 0 (positions_from key below id offset xs) 0
  items-strung key below id offset [] d = (0, refl, refl)
  items-strung key below id offset (x ∷ xs) d = (
    1,
    (refl, refl),
    (
      refl,
      strung-append keep_item 0 0 0 (below x) (positions_from key below id (suc offset) xs) d.0
          (items-strung key below id (suc offset) xs d.1),
    ),
  )

  leaf-each : (xs : List A) → AllByRecursion {X = A} (λ x. Strung {A = A} keep_item 0 [] 0) xs
  leaf-each [] = tt
  leaf-each (x ∷ xs) = (refl, leaf-each xs)

module _ (A : Type 0) where
  branch-each : (h : ℕ) → ((t : Subtree A h) → Strung keep_item 0 (positions A h t) 0) → (bs : List (A × Subtree A h))
      → AllByRecursion (λ b. Strung keep_item 0 (branch_positions A h b) 0) bs
  branch-each h each [] = tt
  branch-each h each (b ∷ bs) = (each b.1, branch-each h each bs)

  pub positions-strung : (h : ℕ) (t : Subtree A h) → Strung keep_item 0 (positions A h t) 0
  positions-strung zero t = (0, refl, items-strung {X = A} (λ x. x) (λ x. []) t.0 0 t.1 (leaf-each t.1))
  positions-strung (suc h) t = (
    0,
    refl,
    strung-append keep_item 0 0 0 (positions A h t.1) (positions_from (branch_key A h) (branch_positions A h) t.0 0 t.2)
        (positions-strung h t.1)
        (items-strung (branch_key A h) (branch_positions A h) t.0 0 t.2 (branch-each h (positions-strung h) t.2)),
  )

some-of : {A : Type 0} (item : Option A) → is_some item ≡ true → (x : A) × (item ≡ Some x)
some-of None e = absurd (cc)
some-of (Some x) e = (x, refl)

kept-some : {A : Type 0} (x : A) (item : Option A) → item ≡ Some x → is_some item ≡ true
kept-some x item e = ap is_some e

module _ {A : Type 0} (node_at : NodeMap A) where
  -- an address is occupied if an item is at it
  pub occupied-by : (id : ℕ) (offset : Option ℕ) (x : A) → option_and_then (item_in (node_at id)) offset ≡ Some x
      → IsOccupied node_at id offset
  occupied-by id None x e = absurd (cc)
  occupied-by id (Some o) x e = (x, e)

  not-end : (v : Option (View A)) (o : ℕ) (x : A) → item_in v o ≡ Some x → IsEnd node_at v o → ⊥
  not-end None o x e last = last
  not-end (Some v) o x e last = let l = slice_get_within (items_of v) o x e in omega arith

  -- and its place is the index of that item
  pub place-item : (root : ℕ) (xs : List A) (id : ℕ) (offset : Option ℕ) (x : A) (place : ℕ)
      → option_and_then (item_in (node_at id)) offset ≡ Some x → IsPlace node_at (Some root) xs id offset place
      → slice_get xs place ≡ Some x
  place-item root xs id None x place e i = absurd (cc)
  place-item root xs id (Some o) x place e (inl i) = subst (λ w. IsPlaceOf node_at xs w place) e i
  place-item root xs id (Some o) x place e (inr i) = absurd (not-end (node_at id) o x e i.0)

  module _ (levels root : ℕ) (xs : List A) (p : IsPlaced node_at levels root xs) where
    list-kept : (t : AsSubtree node_at levels root xs p)
        → item_addresses_under node_at levels (Some root) ≡ kept keep_item (ticks_of node_at levels root xs p t)
    list-kept t =
        subst (λ i. item_addresses_under node_at levels (Some i) ≡ kept keep_item (ticks_of node_at levels root xs p t)) t.here
        (item-positions node_at p.rooted.height levels None t.subtree p.low t.holds)

    item-right : (t : AsSubtree node_at levels root xs p) (place : ℕ) (a : Address)
        → slice_get (kept keep_item (ticks_of node_at levels root xs p t)) place ≡ Some a
        → IsOccupied node_at a.id a.offset × IsPlace node_at (Some root) xs a.id a.offset place × (item_at node_at a ≡ slice_get xs place)
    item-right t place a at =
        let r = strung-addressed node_at levels root xs p t keep_item 0 (positions-strung A p.rooted.height t.subtree) place a at in
        let x = some-of r.item r.keeps in
        let d = r.is (Some x.0) x.1 in (
          occupied-by a.id a.offset x.0 d.item,
          d.at_place,
          d.item ∙ sym (place-item root xs a.id a.offset x.0 place d.item d.at_place),
        )

    occupied-listed : (t : AsSubtree node_at levels root xs p) (place id : ℕ) (offset : Option ℕ)
        → IsOccupied node_at id offset → IsPlace node_at (Some root) xs id offset place
        → slice_get (kept keep_item (ticks_of node_at levels root xs p t)) place ≡ Some (record { id = id; offset = offset })
    occupied-listed t place id None o i = absurd o
    occupied-listed t place id (Some offset) o i =
        addressed-strung node_at levels root xs p t keep_item 0 (positions-strung A p.rooted.height t.subtree) (Some o.0)
        (record { id = id; offset = Some offset }) place (kept-some o.0)
        (record { valid = inl (item-within node_at offset o.0 (node_at id) o.1); at_place = i; item = o.1 })

    items-placed : ListsItems node_at (Some root) xs (item_addresses_under node_at levels (Some root))
    items-placed =
        let t = as-subtree node_at levels root xs p in
        let e = list-kept t in
        record {
          counted = ap length e
              ∙ (let n = strung-counted node_at levels root xs p t keep_item 0 (positions-strung A p.rooted.height t.subtree) in
              let q : length (kept keep_item (ticks_of node_at levels root xs p t)) ≡ length xs = omega arith in q);
          right = λ place a at. item-right t place a (ap (λ l. slice_get l place) (sym e) ∙ at);
          each = λ place a o i. ap (λ l. slice_get l place) e ∙ occupied-listed t place a.id a.offset o i;
        }

  no-occupied : ((n : ℕ) → node_at n ≡ None) → (id : ℕ) (offset : Option ℕ) → IsOccupied node_at id offset → ⊥
  no-occupied none id None o = o
  no-occupied none id (Some offset) o =
      let e = ap (λ v. item_in v offset) (none id) in
      let f = o.1 in
      absurd (cc)

  -- the law of the list, for each tree whose addresses have one place each
  pub items-listed : (levels : ℕ) (root : Option ℕ) (xs : List A) → IsPlacedUnder node_at levels root xs
      → ListsItems node_at root xs (item_addresses_under node_at levels root)
  items-listed levels None xs p = record {
    counted = let e = ap length p.1 in omega arith;
    right = λ place a at. absurd (cc);
    each = λ place a o i. absurd (no-occupied p.0 a.id a.offset o);
  }
  items-listed levels (Some root) xs p = items-placed levels root xs p

  module _ (root : Option ℕ) (xs : List A) (list : List Address) (law : ListsItems node_at root xs list) where
    -- occupied addresses with the same place are equal
    pub one-occupied : (place : ℕ) (a b : Address) → IsOccupied node_at a.id a.offset → IsOccupied node_at b.id b.offset
        → IsPlace node_at root xs a.id a.offset place → IsPlace node_at root xs b.id b.offset place → a ≡ b
    one-occupied place a b o q i j =
        let e = law.each place a o i in
        let f = law.each place b q j in
        cc

    -- the occupied address at a place
    pub record OccupiedAt (place : ℕ) : Type 0 where
      pub address : Address
      pub listed : slice_get list place ≡ Some address
      pub occupied : IsOccupied node_at address.id address.offset
      pub at_place : IsPlace node_at root xs address.id address.offset place
      pub item : item_at node_at address ≡ slice_get xs place

    -- each index of the list of pairs is the place of an occupied address
    pub occupied-at : (place : ℕ) → place < length xs → OccupiedAt place
    occupied-at place l =
        let n = law.counted in
        elim (slice_get_cases list place).1 [
          | inl c ↦
              let r = law.right place c.0 c.2 in
              record { address = c.0; listed = c.2; occupied = r.0; at_place = r.1; item = r.2 }
          | inr c ↦ (let k : length list ≤ place = c.0 in absurd (omega arith))
        ]
