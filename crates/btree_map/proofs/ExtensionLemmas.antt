-- Insertions of many pairs.
use Rattle.btree_map.proofs.Common.{◌≡◌, ◌∙◌, ◌+◌, ◌++◌, List, [], ◌∷◌, cond, Some, None, length, slice_get, refl, sym, ap, subst, arith, AllByRecursion, insert, remove, is_lt, Less, Ascends, before, found, inserted, inserted_all}
use Rattle.std.proofs.Common.{Ordering}
use Rattle.std.specs.Map.{keys_of}
use Rattle.std.proofs.lemmas.Map.Keys.{sorted_head, sorted_tail}
use Rattle.btree_item.proofs.KeyLemmas.{count_by-cons}

module _ {K V : Type 0} where
  -- the first pair, and the others
  pub first-and-rest : (xs ys : List (K × V)) (x : K × V) → Some x ≡ slice_get xs 0 → ys ≡ remove xs 0 → xs ≡ x ∷ ys
  first-and-rest [] ys x is rest = absurd (cc)
  first-and-rest (y ∷ xs) ys x is rest = let first : x ≡ y = cc in λ i. sym first i ∷ sym rest i

  insert-end : (xs : List (K × V)) (x : K × V) → insert xs (length xs) x ≡ xs ++ x ∷ []
  insert-end [] x = refl
  insert-end (y ∷ xs) x = ap (λ l. y ∷ l) (insert-end xs x)

  append-one : (xs ys : List (K × V)) (x : K × V) → (xs ++ x ∷ []) ++ ys ≡ xs ++ x ∷ ys
  append-one [] ys x = refl
  append-one (y ∷ xs) ys x = ap (λ l. y ∷ l) (append-one xs ys x)

  append-none : (xs : List (K × V)) → xs ++ [] ≡ xs
  append-none [] = refl
  append-none (y ∷ xs) = ap (λ l. y ∷ l) (append-none xs)

  module _ (cmp : K → K → Ordering) where
    -- the keys of the first list are below k
    abbrev AreBelow : K → List (K × V) → Type 0
    AreBelow k xs = AllByRecursion (λ (p : K × V). cmp p.0 k ≡ Less) xs

    middle : (x : K) (xs ys : List (K × V)) (y : K × V) → AllByRecursion (λ k. cmp x k ≡ Less) (keys_of (xs ++ y ∷ ys)) → cmp x y.0 ≡ Less
    middle x [] ys y all = all.0
    middle x (z ∷ xs) ys y all = middle x xs ys y all.1

    are-below : (xs ys : List (K × V)) (y : K × V) → Ascends cmp (xs ++ y ∷ ys) → AreBelow y.0 xs
    are-below [] ys y up = tt
    are-below (x ∷ xs) ys y up =
        (middle x.0 xs ys y (sorted_head cmp x.0 (keys_of (xs ++ y ∷ ys)) up), are-below xs ys y (sorted_tail cmp x.0 (keys_of (xs ++ y ∷ ys)) up))

    found-past : (k : K) (xs : List (K × V)) → AreBelow k xs → found cmp k xs ≡ None
    found-past k [] all = refl
    found-past k (x ∷ xs) all = rw all.0 (found-past k xs all.1)

    before-past : (k : K) (xs : List (K × V)) → AreBelow k xs → before cmp k xs ≡ length xs
    before-past k [] all = refl
    before-past k (x ∷ xs) all =
        let rest = before-past k xs all.1 in
        let first : before cmp k (x ∷ xs) ≡ 1 + before cmp k xs =
        count_by-cons (λ (y : K × V). is_lt (cmp y.0 k)) x xs ∙ ap (λ (o : Ordering). cond (is_lt o) 1 0 + before cmp k xs) all.0 in
        omega (arith, first, rest)

    inserted-past : (k : K) (w : V) (xs : List (K × V)) → AreBelow k xs → inserted cmp k w xs ≡ xs ++ (k, w) ∷ []
    inserted-past k w xs all = rw (found-past k xs all, before-past k xs all) (insert-end xs (k, w))

    -- pairs whose keys ascend, and are above those in a list, come after it
    all-past : (xs ys : List (K × V)) → Ascends cmp (xs ++ ys) → inserted_all cmp xs ys ≡ xs ++ ys
    all-past xs [] up = sym (append-none xs)
    all-past xs (y ∷ ys) up =
        let one = inserted-past y.0 y.1 xs (are-below xs ys y up) in
        let more : Ascends cmp ((xs ++ y ∷ []) ++ ys) = subst (λ l. Ascends cmp l) (sym (append-one xs ys y)) up in
        ap (λ l. inserted_all cmp l ys) one ∙ all-past (xs ++ y ∷ []) ys more ∙ append-one xs ys y

    -- into an empty list, they are the list
    pub all-into-none : (ys : List (K × V)) → Ascends cmp ys → inserted_all cmp [] ys ≡ ys
    all-into-none ys up = all-past [] ys up
