-- The list of the back addresses in the leaves of a tree: each is at the index that is its place.
use Rattle.btree_laws.proofs.Common.{◌≡◌, ◌≤◌, ◌∙◌, ◌∷◌, [], ℕ, zero, suc, inl, inr, true, false, Bool, List, length, Option, Some, None, refl, sym, ap, subst, arith, slice_get_cases, AllByRecursion, slice_get, Address, NodeMap, View, leaf, internal, IsPlaced, IsPlacedUnder, NOWHERE, IsBack, IsPlace, IsValid, Holds, Subtree, Position, branch_key, branch_positions, address_at, positions_from, positions}
use Rattle.btree_laws.specs.Addresses.{leaf_backs_under}
use Rattle.btree_laws.specs.AddressLaws.{ListsLeafBacks}
use Rattle.btree_laws.specs.Place.{IsLeaf, IsLeafAddress, IsNowhere}
use Rattle.btree_laws.proofs.AddressLists.OfPositions.{is_leaf_back, keep_leaf_back, leaf-back-positions}
use Rattle.btree_laws.proofs.AddressLists.Kept.{Counts, Strung, kept, strung-append}
use Rattle.btree_laws.proofs.AddressLists.OnePlaceEach.{addressed-strung, strung-addressed, strung-counted, ticks_of, as-subtree}

counts-true : (c : Bool) → c ≡ true → Counts c 0 1
counts-true c e = subst (λ z. Counts z 0 1) (sym e) (refl, refl)

counts-false : (c : Bool) (n : ℕ) → c ≡ false → Counts c n n
counts-false c n e = subst (λ z. Counts z n n) (sym e) refl

module _ {A : Type 0} (node_at : NodeMap A) where
  abbrev kept_leaf : Address → Option A → Bool
  kept_leaf = keep_leaf_back node_at

  -- between two items of the positions there is one back address in a leaf; there is one before the first item, and one
  -- after the last
  leaf-strung : (id offset : ℕ) (xs : List A) → ((o : ℕ) → is_leaf_back (node_at id) (Some o) ≡ true)
      → Strung kept_leaf 0 (positions_from {A = A} {X = A} (λ x. x) (λ x. []) id offset xs) 1
  leaf-strung id offset [] e = (1, counts-true (is_leaf_back (node_at id) (Some offset)) (e offset), refl)
  leaf-strung id offset (x ∷ xs) e =
      (1, counts-true (is_leaf_back (node_at id) (Some offset)) (e offset), (refl, leaf-strung id (suc offset) xs e))

  inner-strung : {X : Type 0} (key : X → A) (below : X → List (Position A)) (id offset : ℕ) (xs : List X)
      → ((o : ℕ) → is_leaf_back (node_at id) (Some o) ≡ false)
      → AllByRecursion (λ x. Strung kept_leaf 0 (below x) 1) xs → Strung kept_leaf 1 (positions_from key below id offset xs) 1
  inner-strung key below id offset [] e d = (1, counts-false (is_leaf_back (node_at id) (Some offset)) 1 (e offset), refl)
  inner-strung key below id offset (x ∷ xs) e d = (
    1,
    counts-false (is_leaf_back (node_at id) (Some offset)) 1 (e offset),
    (
      refl,
      strung-append kept_leaf 0 1 1 (below x) (positions_from key below id (suc offset) xs) d.0
          (inner-strung key below id (suc offset) xs e d.1),
    ),
  )

  branch-each : (h : ℕ) (p : Option ℕ) → ((t : Subtree A h) → Holds A node_at h p t → Strung kept_leaf 0 (positions A h t) 1)
      → (bs : List (A × Subtree A h)) → AllByRecursion (λ b. Holds A node_at h p b.1) bs
      → AllByRecursion (λ b. Strung kept_leaf 0 (branch_positions A h b) 1) bs
  branch-each h p each [] d = tt
  branch-each h p each (b ∷ bs) d = (each b.1 d.0, branch-each h p each bs d.1)

  pub positions-strung : (h : ℕ) (p : Option ℕ) (t : Subtree A h) → Holds A node_at h p t → Strung kept_leaf 0 (positions A h t) 1
  positions-strung zero p t d =
      let is = λ (o : Option ℕ). ap (λ v. is_leaf_back {A = A} v o) d in
      (0, counts-false (is_leaf_back (node_at t.0) None) 0 (is None), leaf-strung t.0 0 t.1 (λ o. is (Some o)))
  positions-strung (suc h) p t d =
      let is = λ (o : Option ℕ). ap (λ v. is_leaf_back {A = A} v o) d.0 in (
        0,
        counts-false (is_leaf_back (node_at t.0) None) 0 (is None),
        strung-append kept_leaf 0 1 1 (positions A h t.1) (positions_from (branch_key A h) (branch_positions A h) t.0 0 t.2)
            (positions-strung h (Some t.0) t.1 d.1)
            (inner-strung (branch_key A h) (branch_positions A h) t.0 0 t.2 (λ o. is (Some o))
            (branch-each h (Some t.0) (positions-strung h (Some t.0)) t.2 d.2)),
      )

  -- what is kept is in a leaf, and a back address
  is-leaf : (v : Option (View A)) (offset : Option ℕ) → is_leaf_back v offset ≡ true → IsLeaf node_at v × IsBack node_at offset
  is-leaf None offset e = absurd (cc)
  is-leaf (Some (leaf parent items)) None e = absurd (cc)
  is-leaf (Some (leaf parent items)) (Some o) e = (tt, tt)
  is-leaf (Some (internal parent first branches)) offset e = absurd (cc)

  leaf-is : (v : Option (View A)) (offset : Option ℕ) → IsLeaf node_at v → IsBack node_at offset → is_leaf_back v offset ≡ true
  leaf-is None offset l b = absurd l
  leaf-is (Some (leaf parent items)) None l b = absurd b
  leaf-is (Some (leaf parent items)) (Some o) l b = refl
  leaf-is (Some (internal parent first branches)) offset l b = absurd l

  leaf-of : (root id : ℕ) (offset : Option ℕ) → IsLeafAddress node_at (Some root) id offset → IsLeaf node_at (node_at id)
  leaf-of root id offset (inl l) = l
  leaf-of root id offset (inr n) = let e = n.0 in absurd (cc)

  module _ (levels root : ℕ) (xs : List A) (p : IsPlaced node_at levels root xs) where
    leaf-backs-placed : ListsLeafBacks node_at (Some root) xs (leaf_backs_under node_at levels (Some root))
    leaf-backs-placed =
        let t = as-subtree node_at levels root xs p in
        let ts : List (Position A) = ticks_of node_at levels root xs p t in
        let s : Strung kept_leaf 0 ts 1 = positions-strung p.rooted.height None t.subtree t.holds in
        let e : leaf_backs_under node_at levels (Some root) ≡ kept kept_leaf ts =
        subst (λ i. leaf_backs_under node_at levels (Some i) ≡ kept kept_leaf ts) t.here
        (leaf-back-positions node_at p.rooted.height levels None t.subtree p.low t.holds) in
        record {
          counted = ap length e
              ∙ (let n = strung-counted node_at levels root xs p t kept_leaf 1 s in
              let q : length (kept kept_leaf ts) ≡ suc (length xs) = omega arith in q);
          right = λ place a at.
              let r = strung-addressed node_at levels root xs p t kept_leaf 1 s place a (ap (λ l. slice_get l place) (sym e) ∙ at) in
              let k = is-leaf (node_at a.id) a.offset r.keeps in
              let d = r.is None tt in
              (d.valid, inl k.0, k.1, d.at_place);
          each = λ place a v l b i.
              ap (λ z. slice_get z place) e
              ∙ addressed-strung node_at levels root xs p t kept_leaf 1 s None a place
              (λ item m. leaf-is (node_at a.id) a.offset (leaf-of root a.id a.offset l) b)
              (record { valid = v; at_place = i; item = tt });
        }

  nowhere-only : (xs : List A) (place : ℕ) (a : Address) → IsPlace node_at None xs a.id a.offset place
      → slice_get (address_at NOWHERE 0 ∷ []) place ≡ Some a
  nowhere-only xs place a i =
      let e : a.id ≡ NOWHERE = i.0.1 in
      let f : a.offset ≡ Some 0 = i.0.2 in
      ap (λ n. slice_get (address_at NOWHERE 0 ∷ []) n) i.1
      ∙ (ap (λ n. Some (address_at n 0)) (sym e) ∙ ap (λ o. Some (record { id = a.id; offset = o })) (sym f))

  nowhere-right : (xs : List A) (place : ℕ) (a : Address) → slice_get (address_at NOWHERE 0 ∷ []) place ≡ Some a
      → IsNowhere node_at None a.id a.offset × (place ≡ 0)
  nowhere-right xs zero a at =
      let e : address_at NOWHERE 0 ≡ a = cc in
      ((refl, sym (ap (λ (b : Address). b.id) e), sym (ap (λ (b : Address). b.offset) e)), refl)
  nowhere-right xs (suc place) a at = absurd (cc)

  nowhere-back : (id : ℕ) (offset : Option ℕ) → IsNowhere node_at None id offset → IsBack node_at offset
  nowhere-back id None n = let e = n.2 in absurd (cc)
  nowhere-back id (Some o) n = tt

  -- the law of the list, for each tree whose addresses have one place each, and for the empty one
  pub leaf-backs-listed : (levels : ℕ) (root : Option ℕ) (xs : List A) → IsPlacedUnder node_at levels root xs
      → ListsLeafBacks node_at root xs (leaf_backs_under node_at levels root)
  leaf-backs-listed levels None xs p = record {
    counted = let e = ap length p.1 in omega arith;
    right = λ place a at.
        let r = nowhere-right xs place a at in
        (inr r.0, inr r.0, nowhere-back a.id a.offset r.0, r);
    each = λ place a v l b i. nowhere-only xs place a i;
  }
  leaf-backs-listed levels (Some root) xs p = leaf-backs-placed levels root xs p

  module _ (root : Option ℕ) (xs : List A) (list : List Address) (law : ListsLeafBacks node_at root xs list) where
    -- a back address in a leaf of the tree, or nowhere, with a place
    pub record IsLeafBack (a : Address) (place : ℕ) : Type 0 where
      pub valid : IsValid node_at root a.id a.offset
      pub in_leaf : IsLeafAddress node_at root a.id a.offset
      pub back : IsBack node_at a.offset
      pub at_place : IsPlace node_at root xs a.id a.offset place

    pub record LeafBackAt (place : ℕ) : Type 0 where
      pub address : Address
      pub listed : slice_get list place ≡ Some address
      pub is : IsLeafBack address place

    -- each number from 0 to the length is the place of one of them
    pub leaf-back-at : (place : ℕ) → place ≤ length xs → LeafBackAt place
    leaf-back-at place l =
        let n = law.counted in
        elim (slice_get_cases list place).1 [
          | inl c ↦
              let r = law.right place c.0 c.2 in
              record {
                address = c.0;
                listed = c.2;
                is = record { valid = r.0; in_leaf = r.1; back = r.2; at_place = r.3 };
              }
          | inr c ↦ (let k : length list ≤ place = c.0 in absurd (omega arith))
        ]
