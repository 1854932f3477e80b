-- If the keys of the list ascend strictly, an address has one place.
use Rattle.btree_laws.proofs.Common.{◌≡◌, ◌⊎◌, ℕ, zero, suc, ◌+◌, ◌<◌, List, [], ◌∷◌, ◌++◌, length, Option, Some, None, refl, sym, ap, ◌∙◌, inl, inr, arith, length-append, slice_get, AllByRecursion, IsStrictlySortedBy, IsTotalOrder, Ordering, Less, Equal, Greater, Ascends, View, NodeMap, items_of, item_in, Represents, IsSubtreeAt, IsPlace, IsPlaceOf, IsEnd}
use Rattle.std.specs.Map.{keys_of}
use Rattle.std.specs.Ordering.{ordering_reverse}
use Rattle.btree_laws.specs.Place.{IsSubtree}
use Rattle.btree_laws.proofs.Trees.Represented.{represented-is}
use Rattle.std.proofs.lemmas.Option.{slice_get_past}

module _ {A : Type 0} (node_at : NodeMap A) where
  same_list : (h k : ℕ) (p q : Option ℕ) (id : ℕ) (ys zs : List A) → Represents node_at h p id ys → Represents node_at k q id zs → ys ≡ zs
  same_list h k p q id ys zs s t =
      sym (represented-is node_at h (suc (h + k)) p id ys (omega arith) s) ∙ represented-is node_at k (suc (h + k)) q id zs (omega arith) t

  -- a node represents one list
  pub same_subtree : (id : ℕ) (ys zs : List A) → IsSubtree node_at id ys → IsSubtree node_at id zs → ys ≡ zs
  same_subtree id ys zs s t = same_list s.height t.height s.parent t.parent id ys zs s.represents t.represents

not_below_itself : (c : Ordering) → c ≡ ordering_reverse c → c ≡ Less → ⊥
not_below_itself Less e l = absurd (cc)
not_below_itself Equal e l = absurd (cc)
not_below_itself Greater e l = absurd (cc)

module _ {K V : Type 0} (cmp : K → K → Ordering) (o : IsTotalOrder cmp) where
  apart : (k : K) (xs : List (K × V)) (j : ℕ) (x : K × V) → AllByRecursion (λ y. cmp k y ≡ Less) (keys_of xs) → slice_get xs j ≡ Some x → k ≡ x.0 → ⊥
  apart k [] j x all at e = absurd (cc)
  apart k (y ∷ xs) zero x all at e =
      let y_is : y ≡ x = cc in
      let l : cmp k k ≡ Less = ap (cmp k) (e ∙ sym (ap (λ z. z.0) y_is)) ∙ all.0 in
      not_below_itself (cmp k k) (o.antisymm k k) l
  apart k (y ∷ xs) (suc j) x all at e = apart k xs j x all.1 at e

  -- no pair occurs twice
  pub same_index : (xs : List (K × V)) (i j : ℕ) (x : K × V) → Ascends cmp xs → slice_get xs i ≡ Some x → slice_get xs j ≡ Some x → i ≡ j
  unfolding IsStrictlySortedBy
  same_index [] i j x up at too = absurd (cc)
  same_index (y ∷ xs) zero zero x up at too = refl
  same_index (y ∷ xs) zero (suc j) x up at too = let y_is : y ≡ x = cc in absurd (apart y.0 xs j x up.0 too (ap (λ z. z.0) y_is))
  same_index (y ∷ xs) (suc i) zero x up at too = let y_is : y ≡ x = cc in absurd (apart y.0 xs i x up.0 at (ap (λ z. z.0) y_is))
  same_index (y ∷ xs) (suc i) (suc j) x up at too = ap (λ n. suc n) (same_index xs i j x up.1 at too)

  same_front : (xs ys front back front2 back2 : List (K × V)) → Ascends cmp xs → ((0 < length ys) ⊎ (xs ≡ []))
      → xs ≡ front ++ ys ++ back → xs ≡ front2 ++ ys ++ back2 → length front ≡ length front2
  same_front xs [] front back front2 back2 up (inl some) e f = absurd (omega arith)
  same_front xs (y ∷ ys) front back front2 back2 up (inl some) e f =
      same_index xs (length front) (length front2) y up
      (ap (λ l. slice_get l (length front)) e ∙ get_in front (y ∷ ys) back)
      (ap (λ l. slice_get l (length front2)) f ∙ get_in front2 (y ∷ ys) back2)
    where
      get_in : (f g h : List (K × V)) → slice_get (f ++ g ++ h) (length f) ≡ slice_get (g ++ h) 0
      get_in [] g h = refl
      get_in (x ∷ f) g h = get_in f g h
  same_front xs ys front back front2 back2 up (inr none) e f =
      let a = ap length e in let b = ap length f in let n = ap length none in
      omega (arith, length-append front ys, length-append front2 ys, length-append (front ++ ys) back, length-append (front2 ++ ys) back2)

  module _ (node_at : NodeMap (K × V)) (xs : List (K × V)) (up : Ascends cmp xs) (filled : (id : ℕ) (ys : List (K × V)) → IsSubtree node_at id ys → (0 < length ys) ⊎ (xs ≡ [])) where
    same_before : (id : ℕ) (ys zs : List (K × V)) (p q : ℕ) → IsSubtreeAt node_at xs id ys p → IsSubtreeAt node_at xs id zs q → p ≡ q
    same_before id ys zs p q s t =
        let e = same_subtree node_at id ys zs s.subtree t.subtree in
        let split : xs ≡ t.front ++ ys ++ t.back = t.split ∙ ap (λ l. t.front ++ l ++ t.back) (sym e) in
        s.counted ∙ same_front xs ys s.front s.back t.front t.back up (filled id ys s.subtree) s.split split ∙ sym t.counted

    -- an address has one place
    pub same_place : (root : Option ℕ) (id : ℕ) (offset : Option ℕ) (p q : ℕ) → IsPlace node_at root xs id offset p → IsPlace node_at root xs id offset q → p ≡ q
    same_place None id offset p q s t = s.1 ∙ sym t.1
    same_place (Some r) id None p q s t = same_before id s.0 t.0 p q s.1 t.1
    same_place (Some r) id (Some i) p q s t = elim s [
      | inl a ↦ elim t [
        | inl b ↦ at_item (item_in (node_at id) i) a b
        | inr b ↦ absurd (apart_end p a b.0)
      ]
      | inr a ↦ elim t [
        | inl b ↦ absurd (apart_end q b a.0)
        | inr b ↦
            let e = same_subtree node_at id a.1.0 b.1.0 a.1.2.subtree b.1.2.subtree in
            let n = same_before id a.1.0 b.1.0 a.1.1 b.1.1 a.1.2 b.1.2 in
            let l = ap length e in
            let x = a.1.3 in let y = b.1.3 in omega arith
      ]
    ]
      where
        at_item : (o : Option (K × V)) → IsPlaceOf node_at xs o p → IsPlaceOf node_at xs o q → p ≡ q
        at_item None a b = absurd a
        at_item (Some x) a b = same_index xs p q x up a b

        apart_at : (n : ℕ) (v : Option (View (K × V))) → IsPlaceOf node_at xs (item_in v i) n → IsEnd node_at v i → ⊥
        apart_at n None a e = absurd e
        apart_at n (Some node) a e = let none = slice_get_past (items_of node) i (omega arith) in absurd (rw none at a)

        apart_end : (n : ℕ) → IsPlaceOf node_at xs (item_in (node_at id) i) n → IsEnd node_at (node_at id) i → ⊥
        apart_end n a e = apart_at n (node_at id) a e
