-- Each address in a node of a tree has a place.
use Rattle.btree_laws.proofs.Common.{◌≡◌, ◌⊎◌, ℕ, zero, suc, ◌+◌, ◌≤◌, List, [], ◌∷◌, ◌++◌, length, map, Option, Some, None, refl, sym, ap, subst, ◌∙◌, inl, inr, arith, slice_get, flat_map, View, internal, NodeMap, items_of, item_in, Represents, numbers_under, times_used, IsPlace, IsPlaceOf, IsEnd, IsWithin, times_listed}
use Rattle.btree_laws.proofs.Trees.SubtreePlaces.{HasSubtreeAt, focused}
use Rattle.btree_laws.proofs.Trees.Numbers.{used-one}

module _ {A : Type 0} where
  pub behind : (front xs : List A) (q : ℕ) (x : A) → slice_get xs q ≡ Some x → slice_get (front ++ xs) (length front + q) ≡ Some x
  behind [] xs q x at = let e : length {A = A} [] + q ≡ q = omega arith in ap (slice_get xs) e ∙ at
  behind (y ∷ front) xs q x at = let e : length (y ∷ front) + q ≡ suc (length front + q) = omega arith in ap (slice_get (y ∷ (front ++ xs))) e ∙ behind front xs q x at

  pub ahead : (xs back : List A) (q : ℕ) (x : A) → slice_get xs q ≡ Some x → slice_get (xs ++ back) q ≡ Some x
  ahead [] back q x at = absurd (cc)
  ahead (y ∷ xs) back zero x at = at
  ahead (y ∷ xs) back (suc q) x at = ahead xs back q x at

  among : (rest : List (A × ℕ × List A)) (o : ℕ) (x : A) → slice_get (map {B = A} (λ b. b.0) (map {B = A × ℕ} (λ r. (r.0, r.1)) rest)) o ≡ Some x
      → (q : ℕ) × (slice_get (flat_map (λ r. r.0 ∷ r.2) rest) q ≡ Some x)
  among [] o x at = absurd (cc)
  among (r ∷ rest) zero x at = (0, at)
  among (r ∷ rest) (suc o) x at =
      let later = among rest o x at in
      (length (r.0 ∷ r.2) + later.0, behind (r.0 ∷ r.2) (flat_map (λ (r : A × ℕ × List A). r.0 ∷ r.2) rest) later.0 x later.1)

  pub low_or_end : (xs : List A) (o : ℕ) → o ≤ length xs → ((x : A) × (slice_get xs o ≡ Some x)) ⊎ (o ≡ length xs)
  low_or_end [] o low = inr (omega arith)
  low_or_end (x ∷ xs) zero low = inl (x, refl)
  low_or_end (x ∷ xs) (suc o) low = elim (low_or_end xs o (omega arith)) [ inl at ↦ inl at | inr e ↦ inr (omega arith) ]

module _ {A : Type 0} (node_at : NodeMap A) where
  item_among : (h : ℕ) (p : Option ℕ) (n : ℕ) (ys : List A) (o : ℕ) (x : A) → Represents node_at h p n ys → item_in (node_at n) o ≡ Some x → (q : ℕ) × (slice_get ys q ≡ Some x)
  item_among zero p n ys o x s at = (o, subst (λ w. item_in w o ≡ Some x) s at)
  item_among (suc h) p n ys o x s at =
      let e : item_in (Some (internal p s.0 (map {B = A × ℕ} (λ r. (r.0, r.1)) s.2))) o ≡ Some x = subst (λ w. item_in w o ≡ Some x) s.3 at in
      let there = among s.2 o x e in
      (length s.1 + there.0, ap (λ l. slice_get l (length s.1 + there.0)) s.6 ∙ behind s.1 (flat_map (λ (r : A × ℕ × List A). r.0 ∷ r.2) s.2) there.0 x there.1)

  module _ (root height : ℕ) (xs : List A) (top : Represents node_at height None root xs) (once : (n : ℕ) → times_listed n (numbers_under node_at height root) ≡ times_used (node_at n)) where
    at_node : (id : ℕ) (v : View A) → node_at id ≡ Some v → HasSubtreeAt node_at xs id
    at_node id v e = let c = used-one (node_at id) v e in let d = once id in focused node_at height None id root xs top (omega arith)

    -- an address in a node of the tree has a place
    pub has_place : (id : ℕ) (v : View A) (offset : Option ℕ) → node_at id ≡ Some v → IsWithin node_at (Some v) offset → (p : ℕ) × IsPlace node_at (Some root) xs id offset p
    has_place id v None e within = let s = at_node id v e in (s.before, (s.ys, s.at))
    has_place id v (Some o) e within =
        let s = at_node id v e in
        elim (low_or_end (items_of v) o within) [
          | inl at ↦
              let here : item_in (node_at id) o ≡ Some at.0 = ap (λ w. item_in w o) e ∙ at.1 in
              let q = item_among s.at.subtree.height s.at.subtree.parent id s.ys o at.0 s.at.subtree.represents here in
              let inner = behind s.at.front s.ys q.0 at.0 q.1 in
              let full = ap (λ l. slice_get l (length s.at.front + q.0)) s.at.split ∙ ahead (s.at.front ++ s.ys) s.at.back (length s.at.front + q.0) at.0 inner in
              (length s.at.front + q.0, inl (subst (λ w. IsPlaceOf node_at xs w (length s.at.front + q.0)) (sym here) full))
          | inr end ↦ (s.before + length s.ys, inr (subst (λ w. IsEnd node_at w o) (sym e) end, (s.ys, s.before, s.at, refl)))
        ]
