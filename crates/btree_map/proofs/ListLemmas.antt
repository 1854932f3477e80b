-- A list of pairs with another value at a key: at its place, at an equal key, twice, and at a key that was inserted.
use Rattle.btree_map.proofs.Common.{◌≡◌, ◌∙◌, ◌∷◌, [], ◌≤◌, ℕ, zero, suc, Bool, true, false, cond, List, Some, length, set, slice_get, refl, sym, ap, arith, IsTotalOrder, tied_itself, AllByRecursion, insert, Ordering, Less, Equal, Ascends, found, inserted}
use Rattle.std.proofs.lemmas.Map.Keys.{sorted_head, sorted_tail}
use Rattle.std.specs.Cmp.{Equal-is, alike_right}
use Rattle.std.specs.Map.{keys_of, lookup_entry, set_value}
use Rattle.std.specs.Ordering.{is_eq}
use Rattle.btree_item.specs.Pairs.{with_value}
use Rattle.btree_laws.proofs.Options.{then-some}

pub set-inserted : {X : Type 0} (xs : List X) (n : ℕ) (x y : X) → n ≤ length xs → set (insert xs n x) n y ≡ insert xs n y
set-inserted [] zero x y low = refl
set-inserted [] (suc n) x y low = absurd (omega arith)
set-inserted (z ∷ xs) zero x y low = refl
set-inserted (z ∷ xs) (suc n) x y low = ap (λ l. z ∷ l) (set-inserted xs n x y (omega arith))

module _ {K V : Type 0} (test : K → Bool) where
  found-by : (b : Bool) (x p : K × V) (xs : List (K × V)) → test x.0 ≡ b → (lookup_entry test xs ≡ Some p → test p.0 ≡ true)
      → cond b (Some x) (lookup_entry test xs) ≡ Some p → test p.0 ≡ true
  found-by true x p xs is rest e = let same : x ≡ p = cc in ap (λ q. test q.0) (sym same) ∙ is
  found-by false x p xs is rest e = rest e

  -- the key that was found passes
  found-passes : (p : K × V) (xs : List (K × V)) → lookup_entry test xs ≡ Some p → test p.0 ≡ true
  found-passes p [] e = absurd (cc)
  found-passes p (x ∷ xs) e = found-by (test x.0) x p xs refl (found-passes p xs) e

  twice-by : (b : Bool) (v w : V) (x : K × V) (xs : List (K × V)) → test x.0 ≡ b → set_value test (set_value test xs v) w ≡ set_value test xs w
      → set_value test (cond b ((x.0, v) ∷ xs) (x ∷ set_value test xs v)) w ≡ cond b ((x.0, w) ∷ xs) (x ∷ set_value test xs w)
  twice-by true v w x xs is rest = rw is refl
  twice-by false v w x xs is rest = rw is (ap (λ l. x ∷ l) rest)

  -- of two values written one after the other the second stays
  set-twice : (v w : V) (xs : List (K × V)) → set_value test (set_value test xs v) w ≡ set_value test xs w
  set-twice v w [] = refl
  set-twice v w (x ∷ xs) = twice-by (test x.0) v w x xs refl (set-twice v w xs)

module _ {K V : Type 0} (cmp : K → K → Ordering) (laws : IsTotalOrder cmp) (w : V) where
  below-at : (q : K) (xs : List (K × V)) (n : ℕ) (p : K × V) → AllByRecursion (λ y. cmp q y ≡ Less) (keys_of xs) → slice_get xs n ≡ Some p → cmp q p.0 ≡ Less
  below-at q [] n p all at = absurd (cc)
  below-at q (x ∷ xs) zero p all at =
      let same : x ≡ p = cc in
      ap (λ r. cmp q r.0) (sym same) ∙ all.0
  below-at q (x ∷ xs) (suc n) p all at = below-at q xs n p all.1 at

  -- a value set at the place of a pair is written at its key
  pub set-stored : (xs : List (K × V)) (n : ℕ) (p : K × V) → Ascends cmp xs → slice_get xs n ≡ Some p → set xs n (p.0, w) ≡ with_value cmp p.0 w xs
  set-stored [] n p up at = absurd (cc)
  set-stored (x ∷ xs) zero p up at =
      let same : x ≡ p = cc in
      let tied : cmp x.0 p.0 ≡ Equal = ap (λ r. cmp r.0 p.0) same ∙ tied_itself laws p.0 in
      rw tied (ap (λ r. (r.0, w) ∷ xs) (sym same))
  set-stored (x ∷ xs) (suc n) p up at =
      let less = below-at x.0 xs n p (sorted_head cmp x.0 (keys_of xs) up) at in
      rw less (ap (λ l. x ∷ l) (set-stored xs n p (sorted_tail cmp x.0 (keys_of xs) up) at))

  -- a value written at a stored key is written at each equal key
  pub with_value-equal : (k : K) (p : K × V) (xs : List (K × V)) → found cmp k xs ≡ Some p → with_value cmp p.0 w xs ≡ with_value cmp k w xs
  with_value-equal k p xs is =
      let passes = found-passes (λ q. is_eq (cmp q k)) p xs is in
      let equal : cmp p.0 k ≡ Equal = (Equal-is (cmp p.0 k)).0 passes in
      λ i. set_value (λ q. is_eq (alike_right laws p.0 k q equal i)) xs w

  pub with_value-twice : (k : K) (v : V) (xs : List (K × V)) → with_value cmp k w (with_value cmp k v xs) ≡ with_value cmp k w xs
  with_value-twice k v xs = set-twice (λ q. is_eq (cmp q k)) v w xs

module _ {K V : Type 0} (cmp : K → K → Ordering) (laws : IsTotalOrder cmp) (k : K) (w : V) (xs : List (K × V)) where
  pub inserted-present : (p : K × V) → found cmp k xs ≡ Some p → with_value cmp p.0 w xs ≡ inserted cmp k w xs
  inserted-present p is = with_value-equal cmp laws w k p xs is ∙ sym (then-some (found cmp k xs) p _ _ is)
