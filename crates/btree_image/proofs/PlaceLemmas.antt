-- The places of so many numbers.
use Rattle.std.proofs.Common.{◌≡◌, ℕ, zero, suc, ◌<◌, ◌≤◌, List, [], ◌∷◌, ◌++◌, length, get_or, Option, Some, None, IsSome, refl, sym, ap, ◌∙◌, arith, inl, inr, length-append}
use Rattle.std.specs.Prelude.{IfSome, option_map, slice_get}
use Rattle.std.proofs.lemmas.Bool.{cases_eq, cases_lt}
use Rattle.std.proofs.lemmas.List.{get_or_append_left, get_or_past, get_or_push}
use Rattle.btree_view.specs.View.{NodeMap, View}
use Rattle.btree_image.specs.Saved.{AreAt}
use Rattle.btree_image.specs.Written.{places_of}

module _ {X : Type 0} where
  slice_get-left : (xs ys : List X) (k : ℕ) → k < length xs → slice_get (xs ++ ys) k ≡ slice_get xs k
  slice_get-left [] ys k lt = absurd (omega arith)
  slice_get-left (x ∷ xs) ys zero lt = refl
  slice_get-left (x ∷ xs) ys (suc k) lt = slice_get-left xs ys k (omega arith)

  slice_get-seam : (xs : List X) (y : X) → slice_get (xs ++ y ∷ []) (length xs) ≡ Some y
  slice_get-seam [] y = refl
  slice_get-seam (x ∷ xs) y = slice_get-seam xs y

  slice_get-past : (xs : List X) (k : ℕ) → length xs ≤ k → slice_get xs k ≡ None
  slice_get-past [] k le = refl
  slice_get-past (x ∷ xs) zero le = absurd (omega arith)
  slice_get-past (x ∷ xs) (suc k) le = slice_get-past xs k (omega arith)

module _ {A : Type 0} (node_at : NodeMap A) where
  pub length-places : (n : ℕ) → length (places_of node_at n) ≡ n
  length-places zero = refl
  length-places (suc n) = omega (arith, length-append (places_of node_at n) (node_at n ∷ []), length-places n)

  pub place-get : (n id : ℕ) → id < n → slice_get (places_of node_at n) id ≡ Some (node_at id)
  place-get zero id lt = absurd (omega arith)
  place-get (suc n) id lt = elim (cases_eq id n) [
    | inl same ↦
        let here : id ≡ length (places_of node_at n) = omega (arith, length-places n) in
        ap (slice_get (places_of node_at n ++ node_at n ∷ [])) here ∙ slice_get-seam (places_of node_at n) (node_at n) ∙ ap (λ (k : ℕ). Some (node_at k)) (sym same)
    | inr other ↦ slice_get-left (places_of node_at n) (node_at n ∷ []) id (omega (arith, length-places n)) ∙ place-get n id (omega arith)
  ]

  pub place-past : (n id : ℕ) → n ≤ id → slice_get (places_of node_at n) id ≡ None
  place-past n id le = slice_get-past (places_of node_at n) id (omega (arith, length-places n))

  place-at : (n id : ℕ) → id < n → get_or (places_of node_at n) id None ≡ node_at id
  place-at zero id lt = absurd (omega arith)
  place-at (suc n) id lt = elim (cases_eq id n) [
    | inl same ↦ get_or_push (places_of node_at n) (node_at n) None id (omega (arith, length-places n)) ∙ ap node_at (sym same)
    | inr other ↦ get_or_append_left (places_of node_at n) (node_at n ∷ []) None id (omega (arith, length-places n)) ∙ place-at n id (omega arith)
  ]

  -- each place has what holds of each number
  pub place-each : (P : Option (View A) → Type 0) (n : ℕ) → ((id : ℕ) → id < n → P (node_at id)) → (k : ℕ) → IfSome (slice_get (places_of node_at n) k) P
  place-each P n h k = elim (cases_lt k n) [
    | inl inside ↦ rw (place-get n k inside) (h k inside)
    | inr past ↦ rw (place-past n k past) tt
  ]

  unused : (count : ℕ) → ((id : ℕ) → IsSome (node_at id) → id < count) → (id : ℕ) → count ≤ id → (o : Option (View A)) → node_at id ≡ o → o ≡ None
  unused count past id le None is = refl
  unused count past id le (Some node) is = absurd (let low = past id (rw is refl) in omega arith)

  -- the nodes are at the places of all numbers that are used
  pub are-at : (count : ℕ) → ((id : ℕ) → IsSome (node_at id) → id < count) → AreAt node_at (places_of node_at count)
  are-at count past id = elim (cases_lt id count) [
    | inl inside ↦ sym (place-at count id inside)
    | inr le ↦ unused count past id le (node_at id) refl ∙ sym (get_or_past (places_of node_at count) id None (omega (arith, length-places count)))
  ]

module _ {X Y : Type 0} (f : X → Y) where
  pub used-of : (o : Option X) → IsSome (option_map f o) → IsSome o
  used-of None used = used
  used-of (Some x) used = refl

  pub used-map : (o : Option X) → IsSome o → IsSome (option_map f o)
  used-map None used = used
  used-map (Some x) used = refl
