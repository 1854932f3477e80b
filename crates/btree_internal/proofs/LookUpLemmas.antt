-- What a look-up in an internal node returns, by what is found and by the place of the key or of a child.
use Rattle.btree_internal.proofs.Common.{◌≡◌, ℕ, ◌+◌, ◌<◌, List, [], ◌∷◌, Option, Some, None, Ok, drop, length, zero, suc, refl, sym, ◌∙◌, ap, arith, inl, Ordering, slice_get, ◌==◌, option_map, items_of, children_of}
use Rattle.std.proofs.Common.{◌≤◌, Bool, true, false, Err, inr}
use Rattle.std.specs.List.{position, position_from}
use Rattle.std.proofs.lemmas.Bool.Decides.{eqb_tells}
use Rattle.std.proofs.lemmas.Iterator.Adapters.{position_from-zero}
use Rattle.std.proofs.lemmas.List.{drop_all}
use Rattle.std.proofs.lemmas.Option.{slice_get_cases}
use Rattle.btree_item.specs.Pairs.{before, found}
use Rattle.btree_view.specs.LookUp.{look_up}
use Rattle.btree_view.specs.View.{View}

module _ {K Q V : Type 0} (cmp : K → Q → Ordering) (k : Q) (node : View (K × V)) where
  -- a look-up in a node ends at an item with the key
  pub look_up-Ok : (item : K × V) → found cmp k (items_of node) ≡ Some item → look_up cmp k node ≡ Ok (Some item.1)
  look_up-Ok item finds = rw finds refl

  -- without such an item it goes on at the child after all items below the key
  pub look_up-Err : (i id : ℕ) → found cmp k (items_of node) ≡ None → before cmp k (items_of node) ≡ i → slice_get (children_of node) i ≡ Some id → look_up cmp k node ≡ Err id
  look_up-Err i id absent count child =
      let at : slice_get (children_of node) (before cmp k (items_of node)) ≡ Some id = ap (slice_get (children_of node)) count ∙ child in
      rw (absent, at) refl

module _ {T : Type 0} (test : T → Bool) where
  drop_at : (i : ℕ) (xs : List T) (x : T) → slice_get xs i ≡ Some x → drop i xs ≡ x ∷ drop (i + 1) xs
  drop_at i [] x at = absurd (cc)
  drop_at zero (y ∷ ys) x at = ap (λ z. z ∷ ys) (cc)
  drop_at (suc i) (y ∷ ys) x at = let next : suc i + 1 ≡ suc (i + 1) = omega arith in rw next (drop_at i ys x at)

  -- one element further the test has still to succeed
  pub position_from-next : (n i : ℕ) (xs : List T) (x : T) → slice_get xs i ≡ Some x → test x ≡ false → position_from test n (drop i xs) ≡ position_from test (n + 1) (drop (i + 1) xs)
  position_from-next n i xs x at fails = let here = drop_at i xs x at in rw (here, fails) refl

  pub position_from-here : (n i : ℕ) (xs : List T) (x : T) → slice_get xs i ≡ Some x → test x ≡ true → position_from test n (drop i xs) ≡ Some n
  position_from-here n i xs x at passes = let here = drop_at i xs x at in rw (here, passes) refl

  pub position_from-end : (n i : ℕ) (xs : List T) → length xs ≤ i → position_from test n (drop i xs) ≡ None
  position_from-end n i xs past = let none = drop_all i xs past in rw none refl

  pub position-from_Some : (xs : List T) (o : Option ℕ) → position_from test 0 xs ≡ o → o ≡ position test xs
  position-from_Some xs o is = sym (position_from-zero test xs ∙ is)

pub eq-true : (a b : ℕ) → a ≡ b → (a == b) ≡ true
eq-true a b same = elim (eqb_tells a b) [
  | inl is ↦ is.0
  | inr differs ↦ absurd (differs.1 same)
]

pub eq-false : (a b : ℕ) → (a ≡ b → ⊥) → (a == b) ≡ false
eq-false a b apart = elim (eqb_tells a b) [
  | inl is ↦ absurd (apart is.1)
  | inr differs ↦ differs.0
]

-- below the length there is an element
pub not-past : {X Y : Type 0} (f : X → Y) (xs : List X) (i : ℕ) → i < length xs → None ≡ option_map f (slice_get xs i) → ⊥
not-past f xs i low none = elim (slice_get_cases xs i).1 [
  | inl there ↦ (let bad = rw there.2 at none in cc)
  | inr past ↦ omega (arith, past.0)
]

pub none-past : {X : Type 0} (xs : List X) (i : ℕ) → i < length xs → None ≡ slice_get xs i → ⊥
none-past xs i low none = elim (slice_get_cases xs i).1 [
  | inl there ↦ (let at = there.2 in cc)
  | inr past ↦ omega (arith, past.0)
]
