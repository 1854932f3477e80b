-- The addresses at positions are those of the nodes, each at its place.
use Rattle.btree_laws.proofs.Common.{◌≡◌, ◌≤◌, ◌⊎◌, ◌++◌, ◌∷◌, [], ◌∙◌, ◌+◌, ℕ, zero, suc, inl, inr, List, length, map, take, Option, Some, None, refl, sym, ap, subst, arith, length-append, slice_get, Address, NodeMap, item_in, items_of, size_of, IsUnsizedFocus, IsAddressed, IsPlace, IsWithin, total, Subtree, count_at, id_of, items_under, later_items, view_at, IsExpected, IsAt, Position, branch_key, branch_positions, mark, over, passed, address_at, positions_from, positions_to, positions, positions_before, path_after, path_before, all_positions, Path, Frame, at_branch, at_first, before_in, fill, items_before, parent_above, top, under}
use Rattle.btree_laws.proofs.Splits.KeptPositions.{node_positions-passed, positions-passed}
use Rattle.btree_laws.proofs.Paths.Frames.{top-view}
use Rattle.btree_laws.proofs.Places.NodePlaces.{items_upto, unsized-place, unsized-subtree}
use Rattle.btree_laws.proofs.Trees.Sizes.{view-items, view-size}
use Rattle.btree_laws.proofs.Paths.UnsizedFocus.{unsized-down}
use Rattle.btree_laws.proofs.Places.Lists.{in-cases, in-left, in-right, passed-append, passed-positions_to}

-- rows
module _ {A X : Type 0} (item : X → A) (below : X → List (Position A)) where
  abbrev Weight : X → ℕ
  Weight x = suc (passed (below x))

  -- the item of an entry, if there is one at the index
  abbrev pub nth_item : List X → ℕ → Option A
  nth_item xs k = slice_get (map {B = A} item xs) k

  pub node_positions-at : (expected : Option A) (i o k : ℕ) (xs : List X) → k ≤ length xs → IsExpected expected (nth_item xs k)
      → IsAt expected (address_at i (o + k)) (positions_from item below i o xs) (total Weight (take k xs))
  node_positions-at expected i o zero [] l m = inl (ap (λ z. address_at i z) (let q : o + 0 ≡ o = omega arith in q), refl, m)
  node_positions-at expected i o zero (x ∷ xs) l m = inl (ap (λ z. address_at i z) (let q : o + 0 ≡ o = omega arith in q), refl, m)
  node_positions-at expected i o (suc k) [] l m = absurd (omega arith)
  node_positions-at expected i o (suc k) (x ∷ xs) l m =
      let e : o + suc k ≡ suc o + k = omega arith in
      inr (
        passed (below x) + total Weight (take k xs),
        (let q : suc (passed (below x)) + total Weight (take k xs) ≡ suc (passed (below x) + total Weight (take k xs)) =
            omega arith in q),
        in-right expected (address_at i (o + suc k)) (below x) (positions_from item below i (suc o) xs)
            (passed (below x) + total Weight (take k xs)) (total Weight (take k xs)) refl
            (subst (λ z. IsAt expected (address_at i z) (positions_from item below i (suc o) xs) (total Weight (take k xs))) (sym e)
            (node_positions-at expected i (suc o) k xs (omega arith) m)),
      )

  -- an address of a row is the node's own, or it is below an entry
  pub record Own (expected : Option A) (a : Address) (i o : ℕ) (xs : List X) (u : ℕ) : Type 0 where
    pub offset : ℕ
    pub small : offset ≤ length xs
    pub is : a ≡ address_at i (o + offset)
    pub place : u ≡ total Weight (take offset xs)
    pub met : IsExpected expected (nth_item xs offset)

  pub record Below (expected : Option A) (a : Address) (xs : List X) (u : ℕ) : Type 0 where
    pub front : List X
    pub entry : X
    pub back : List X
    pub is : xs ≡ front ++ entry ∷ back
    pub rest : ℕ
    pub there : IsAt expected a (below entry) rest
    pub place : u ≡ total Weight front + suc rest

  pub node_positions-in : (expected : Option A) (a : Address) (i o : ℕ) (xs : List X) (u : ℕ) → IsAt expected a (positions_from item below i o xs) u
      → Own expected a i o xs u ⊎ Below expected a xs u
  node_positions-in expected a i o [] u (inl e) =
      inl (record {
        offset = 0;
        small = omega arith;
        is = e.0 ∙ ap (λ z. address_at i z)
            (let q : o ≡ o + 0 = omega arith in q);
        place = e.1;
        met = e.2;
      })
  node_positions-in expected a i o [] u (inr e) = absurd e
  node_positions-in expected a i o (x ∷ xs) u (inl e) =
      inl (record {
        offset = 0;
        small = omega arith;
        is = e.0 ∙ ap (λ z. address_at i z)
            (let q : o ≡ o + 0 = omega arith in q);
        place = e.1;
        met = e.2;
      })
  node_positions-in expected a i o (x ∷ xs) u (inr e) =
      elim (in-cases expected a (below x) (positions_from item below i (suc o) xs) e.0 e.2) [
        | inl q ↦ inr (record {
          front = [];
          entry = x;
          back = xs;
          is = refl;
          rest = e.0;
          there = q;
          place = let w =
              e.1 in omega arith;
        })
        | inr q ↦ elim (node_positions-in expected a i (suc o) xs q.rest q.there) [
          | inl r ↦ inl (record {
            offset = suc r.offset;
            small = let s = r.small in omega arith;
            is = r.is ∙ ap (λ z. address_at i z) (let n : suc o + r.offset ≡ o + suc r.offset = omega arith in n);
            place = let w = e.1 in let v = q.is in let k = r.place in omega arith;
            met = r.met;
          })
          | inr r ↦ inr (record {
            front = x ∷ r.front;
            entry = r.entry;
            back = r.back;
            is = ap (λ z. x ∷ z) r.is;
            rest = r.rest;
            there = r.there;
            place = let w = e.1 in let v = q.is in let k = r.place in omega arith;
          })
        ]
      ]

module _ (A : Type 0) where
  -- how many items of a subtree are before an offset of its root
  abbrev pub upto : (h : ℕ) → Subtree A h → Option ℕ → ℕ
  upto h t None = 0
  upto h t (Some o) = items_upto A h t o

  abbrev pub within : Option ℕ → ℕ → Type 0
  within None n = Unit {0}
  within (Some o) n = o ≤ n

  -- the item at an offset of the root, if there is one
  abbrev pub top_item : (h : ℕ) → Subtree A h → Option ℕ → Option A
  top_item h t None = None
  top_item zero t (Some o) = nth_item {A = A} {X = A} (λ x. x) (λ x. []) t.1 o
  top_item (suc h) t (Some o) = nth_item (branch_key A h) (branch_positions A h) t.2 o

  items-self : (xs : List A) → map {B = A} (λ (x : A). x) xs ≡ xs
  items-self [] = refl
  items-self (x ∷ xs) = ap (λ l. x ∷ l) (items-self xs)

  -- that is the item of the root's node
  pub top-item : (h : ℕ) (p : Option ℕ) (t : Subtree A h) (o : ℕ)
      → slice_get (items_of (view_at A h p t)) o ≡ top_item h t (Some o)
  top-item zero p t o = ap (λ l. slice_get l o) (sym (items-self t.1))
  top-item (suc h) p t o = ap (λ l. slice_get l o) (view-items A h t.2)

  take-singles : (o : ℕ) (xs : List A) → o ≤ length xs → total (λ (x : A). suc (passed {A = A} [])) (take o xs) ≡ o
  take-singles zero xs l = refl
  take-singles (suc o) [] l = absurd (omega arith)
  take-singles (suc o) (x ∷ xs) l = omega (arith, take-singles o xs (omega arith))

  upto-is : (h : ℕ) (first : Subtree A h) (bs : List (A × Subtree A h))
      → length (items_under A h first ++ later_items A h bs) ≡ passed (positions A h first) + total
      (λ b. suc (passed (positions A h b.1))) bs
  upto-is h first bs = omega (
    arith,
    length-append (items_under A h first) (later_items A h bs),
    positions-passed A h first,
    node_positions-passed A h (positions-passed A h) bs,
  )

  -- an address of the root is at a position
  pub own-in : (expected : Option A) (h : ℕ) (t : Subtree A h) (o : Option ℕ) → within o (count_at A h t)
      → IsExpected expected (top_item h t o)
      → IsAt expected (record { id = id_of A h t; offset = o }) (positions A h t) (upto h t o)
  own-in expected zero t None l m = inl (refl, refl, m)
  own-in expected (suc h) t None l m = inl (refl, refl, m)
  own-in expected zero t (Some o) l m =
      let ts : List (Position A) = positions_from {A = A} {X = A} (λ x. x) (λ x. []) t.0 0 t.1 in
      inr (subst (λ z. IsAt expected (address_at t.0 z) ts o) (let q : 0 + o ≡ o = omega arith in q)
      (subst (λ z. IsAt expected (address_at t.0 (0 + o)) ts z) (take-singles o t.1 l)
      (node_positions-at {A = A} {X = A} (λ x. x) (λ x. []) expected t.0 0 o t.1 l m)))
  own-in expected (suc h) t (Some o) l m =
      let ts : List (Position A) = positions_from (branch_key A h) (branch_positions A h) t.0 0 t.2 in
      inr (in-right expected (address_at t.0 o) (positions A h t.1) ts (items_upto A (suc h) t o)
      (total (λ b. suc (passed (positions A h b.1))) (take o t.2)) (upto-is h t.1 (take o t.2))
      (subst (λ z. IsAt expected (address_at t.0 z) ts (total (λ b. suc (passed (positions A h b.1))) (take o t.2)))
      (let q : 0 + o ≡ o = omega arith in q) (node_positions-at (branch_key A h) (branch_positions A h) expected t.0 0 o t.2 l m)))

  before-passed : (h : ℕ) (f : Frame A h) → passed (positions_before A f) ≡ length (before_in f)
  before-passed h (at_first n back) = refl
  before-passed h (at_branch n first front x back) =
      let ts : List (Position A) = positions_to (branch_key A h) (branch_positions A h) n 0 front in
      let e : List (Position A) = mark (address_at n (length front)) (Some x) ∷ over ∷ [] in
      let ee : passed e ≡ 1 = refl in
      omega (
        arith,
        passed-append (positions A h first) (ts ++ e),
        passed-append ts e,
        passed-positions_to (branch_key A h) (branch_positions A h) n 0 front,
        upto-is h first front,
        length-append (items_under A h first ++ later_items A h front) (x ∷ []),
      )

  pub path-passed : (h : ℕ) (c : Path A h) → passed (path_before A c) ≡ length (items_before c)
  path-passed h top = refl
  path-passed h (under f c) = omega (
    arith,
    passed-append (path_before A c) (positions_before A f),
    path-passed (suc h) c,
    before-passed h f,
    length-append (items_before c) (before_in f),
  )

  -- an address of the node at the hole is at a position of the whole tree
  pub hole-in : (expected : Option A) (h : ℕ) (c : Path A h) (t : Subtree A h) (o : Option ℕ) → within o (count_at A h t)
      → IsExpected expected (top_item h t o)
      → IsAt expected (record { id = id_of A h t; offset = o }) (all_positions A h c t) (length (items_before c) + upto h t o)
  hole-in expected h c t o l m =
      in-right expected (record { id = id_of A h t; offset = o }) (path_before A c) (positions A h t ++ path_after A c)
      (length (items_before c) + upto h t o) (upto h t o)
      (let q = path-passed h c in omega arith) (in-left expected (record { id = id_of A h t; offset = o }) (positions A h t)
      (path_after A c) (upto h t o) (own-in expected h t o l m))

  pub item-in : (h : ℕ) (c : Path A h) (p : Option ℕ) (t : Subtree A h) (o : ℕ) (x : A)
      → slice_get (items_of (view_at A h p t)) o ≡ Some x → o ≤ count_at A h t
      → IsAt (Some x) (address_at (id_of A h t) o) (all_positions A h c t) (length (items_before c) + items_upto A h t o)
  item-in h c p t o x got low = hole-in (Some x) h c t (Some o) low (sym (top-item h p t o) ∙ got)

  -- and each address at a position is one of a node, at its place
  module _ (node_at : NodeMap A) (spare : List ℕ) (root : ℕ) (xs : List A) (expected : Option A) (a : Address) where
    hole-addressed : (h : ℕ) (c : Path A h) (t : Subtree A h) (o : Option ℕ) → IsUnsizedFocus A node_at spare root xs h c t
        → within o (count_at A h t) → IsExpected expected (top_item h t o)
        → IsAddressed A node_at root xs expected (record { id = id_of A h t; offset = o })
        (length (items_before c) + upto h t o)
    hole-addressed h c t None w l m =
        record {
          valid = inl (subst (λ v. IsWithin node_at v None) (sym (top-view A node_at h (parent_above c) t w.inner)) tt);
          at_place = subst (λ n. IsPlace node_at (Some root) xs (id_of A h t) None n)
              (let q : length (items_before c) ≡ length (items_before c) + 0 = omega arith in q)
              (items_under A h t, unsized-subtree A node_at spare root xs h c t w);
          item = m;
        }
    hole-addressed h c t (Some o) w l m =
        let e = top-view A node_at h (parent_above c) t w.inner in
        let n = view-size A h (parent_above c) t in
        record {
          valid = inl (subst (λ v. IsWithin node_at v (Some o)) (sym e)
              (let q : o ≤ size_of (view_at A h (parent_above c) t) = omega arith in q));
          at_place = unsized-place A node_at spare root xs h c t w o l;
          item = subst (λ i. IsExpected expected i) (sym (ap (λ v. item_in v o) e ∙ top-item h (parent_above c) t o)) m;
        }

    here-is : (h : ℕ) (c : Path A h) (t : Subtree A h) (o : Option ℕ) (u p : ℕ) → IsUnsizedFocus A node_at spare root xs h c t
        → a ≡ record { id = id_of A h t; offset = o } → within o (count_at A h t)
        → IsExpected expected (top_item h t o) → u ≡ upto h t o → p ≡ length (items_before c) + u
        → IsAddressed A node_at root xs expected a p
    here-is h c t o u p w e l m eu ep =
        subst (λ z. IsAddressed A node_at root xs expected z p) (sym e)
        (subst (λ z. IsAddressed A node_at root xs expected (record { id = id_of A h t; offset = o }) z)
        (sym (ep ∙ ap (λ z. length (items_before c) + z) eu)) (hole-addressed h c t o w l m))

    pub in-addressed : (h : ℕ) (c : Path A h) (t : Subtree A h) (u p : ℕ) → IsUnsizedFocus A node_at spare root xs h c t
        → IsAt expected a (positions A h t) u → p ≡ length (items_before c) + u
        → IsAddressed A node_at root xs expected a p
    in-addressed zero c t u p w (inl i) e = here-is zero c t None u p w i.0 tt i.2 i.1 e
    in-addressed zero c t u p w (inr i) e =
        elim (node_positions-in {A = A} {X = A} (λ x. x) (λ x. []) expected a t.0 0 t.1 u i) [
          | inl q ↦ here-is zero c t (Some q.offset) u p w
              (q.is ∙ ap (λ z. address_at t.0 z) (let n : 0 + q.offset ≡ q.offset = omega arith in n)) q.small q.met
              (q.place ∙ take-singles q.offset t.1 q.small) e
          | inr q ↦ absurd q.there
        ]
    in-addressed (suc h) c t u p w (inl i) e = here-is (suc h) c t None u p w i.0 tt i.2 i.1 e
    in-addressed (suc h) c t u p w (inr i) e =
        elim (in-cases expected a (positions A h t.1) (positions_from (branch_key A h) (branch_positions A h) t.0 0 t.2) u i) [
          | inl q ↦
              let f : Frame A h = at_first t.0 t.2 in
              in-addressed h (under f c) t.1 u p (unsized-down A node_at spare root xs h f c t.1 w) q
              (let n = length-append (items_before c) [] in omega arith)
          | inr q ↦ elim (node_positions-in (branch_key A h) (branch_positions A h) expected a t.0 0 t.2 q.rest q.there) [
            | inl r ↦ here-is (suc h) c t (Some r.offset) u p w
                (r.is ∙ ap (λ z. address_at t.0 z) (let n : 0 + r.offset ≡ r.offset = omega arith in n)) r.small r.met
                (q.is ∙ (ap (λ z. passed (positions A h t.1) + z) r.place ∙ sym (upto-is h t.1 (take r.offset t.2)))) e
            | inr r ↦
                let f : Frame A h = at_branch t.0 t.1 r.front r.entry.0 r.back in
                let te : t ≡ fill f r.entry.1 = ap (λ (m : List (A × Subtree A h)). (t.0, t.1, m)) r.is in
                let d =
                unsized-down A node_at spare root xs h f c r.entry.1
                (subst (λ (m : Subtree A (suc h)). IsUnsizedFocus A node_at spare root xs (suc h) c m) te w) in
                let n1 = q.is in
                let n2 = r.place in
                in-addressed h (under f c) r.entry.1 r.rest p d r.there
                (omega (
                  arith,
                  length-append (items_before c)
                      ((items_under A h t.1 ++ later_items A h r.front) ++ r.entry.0 ∷ []),
                  length-append
                      (items_under A h t.1 ++ later_items A h r.front) (r.entry.0 ∷ []),
                  upto-is h t.1 r.front,
                ))
          ]
        ]
