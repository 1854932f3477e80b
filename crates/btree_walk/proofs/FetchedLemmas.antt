-- The leaves that a backward walk has fetched.
use Rattle.btree_walk.proofs.Common.{[], ◌≡◌, ℕ, zero, suc, ◌-◌, ◌<◌, ◌≤◌, List, ◌∷◌, ◌++◌, length, map, take, Option, Some, None, IsSome, refl, sym, subst, slice_get, arith, length-map, Bor, AllByRecursion, View, leaf, internal, children_of, size_of, TreeState, Ancestor, row_before, with_child_before}
use Rattle.std.specs.FinMap as finite
use Rattle.std.specs.Option.{option_copied}
use Rattle.btree_laws.specs.TreeState.{IsUsed}
use Rattle.btree_walk.specs.Preceding.{AreAncestorsBefore, HasChildrenBefore}
use Rattle.btree_walk.proofs.BackLemmas.{behind, row_of}
use Rattle.btree_walk.proofs.RowLemmas.{get-within}
use Rattle.btree_walk.proofs.WalkLemmas.{under-used}
use Rattle.btree_walk.proofs.WayLemmas.{AreUnder, taken-off}

module _ {X : Type 0} (P : X → Type 0) where
  -- what holds of each element holds of one of them, and of each of the first ones
  pub all-get : (xs : List X) (n : ℕ) (x : X) → slice_get xs n ≡ Some x → AllByRecursion P xs → P x
  all-get [] n x e all = absurd (cc)
  all-get (y ∷ ys) zero x e all = let same : y ≡ x = cc in subst P same all.0
  all-get (y ∷ ys) (suc n) x e all = all-get ys n x e all.1

  pub all-take : (n : ℕ) (xs : List X) → AllByRecursion P xs → AllByRecursion P (take n xs)
  all-take zero xs all = tt
  all-take (suc n) [] all = tt
  all-take (suc n) (x ∷ xs) all = (all.0, all-take n xs all.1)

  pub all-push : (xs : List X) (x : X) → AllByRecursion P xs → P x → AllByRecursion P (xs ++ x ∷ [])
  all-push [] x all here = (here, tt)
  all-push (y ∷ ys) x all here = (all.0, all-push ys x all.1 here)

module _ {X : Type 0} where
  pub no-elements : (xs : List X) → length xs < 1 → xs ≡ []
  no-elements [] low = refl
  no-elements (x ∷ xs) low = absurd (omega arith)

  -- an element at an index below the length is there
  pub some-get : (xs : List X) (i : ℕ) (r : Option (Bor X)) → i < length xs → option_copied r ≡ slice_get xs i → IsSome r
  some-get xs i None low e = absurd (get-within xs i (sym e) low)
  some-get xs i (Some y) low e = refl

module _ {A : Type 0} (P : ℕ → Type 0) where
  in-row : (first : ℕ) (bs : List (A × ℕ)) (n index id : ℕ) → slice_get (first ∷ map (λ b. b.1) bs) index ≡ Some id → index < n → n ≤ length bs
      → AllByRecursion (λ (b : A × ℕ). P b.1) (take n (with_child_before first bs)) → P id
  in-row first [] n index id e low room all = absurd (omega arith)
  in-row first (b ∷ bs) zero index id e low room all = absurd (omega arith)
  in-row first (b ∷ bs) (suc n) zero id e low room all = let same : first ≡ id = cc in subst P same all.0
  in-row first (b ∷ bs) (suc n) (suc index) id e low room all = in-row b.1 bs n index id e (omega arith) (omega arith) all.1

  -- a child before an item that is not passed is in the row
  pub row-child : (v : View A) (passed index id : ℕ) → slice_get (children_of v) index ≡ Some id → index < size_of v - passed
      → AllByRecursion (λ (b : A × ℕ). P b.1) (row_before v passed) → P id
  row-child (leaf p ys) passed index id e low all = absurd (cc)
  row-child (internal p first bs) passed index id e low all =
      let n = length-map bs (λ (b : A × ℕ). b.0) in
      in-row first bs (length (map (λ (b : A × ℕ). b.0) bs) - passed) index id e low (omega arith) all

module _ {K V : Type 0} (tree : TreeState K V) where
  all-used : (depth : ℕ) (row : List ((K × V) × ℕ)) → AreUnder tree depth row → AllByRecursion (λ (b : (K × V) × ℕ). IsUsed tree b.1) row
  all-used depth [] all = tt
  all-used depth (b ∷ row) all = (under-used tree.nodes (finite.len tree.nodes) depth b.1 all.0, all-used depth row all.1)

  -- the children of the lowest ancestor are nodes
  pub lowest-used : (ancestors : List (Ancestor K V)) (f : Ancestor K V) → AreAncestorsBefore tree ancestors → slice_get ancestors (length ancestors - 1) ≡ Some f
      → HasChildrenBefore tree f
  lowest-used ancestors f was at =
      all-used _ (row_of f) (taken-off (behind tree) ancestors was (sym at) refl).under
