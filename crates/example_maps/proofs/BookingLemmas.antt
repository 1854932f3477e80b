-- Bookings that overlap a time: none before the first candidate, and none from the first one on that begins too late.
use Rattle.std.proofs.Common.{◌≡◌, ◌<◌, ◌≤◌, ◌+◌, ◌∙◌, ℕ, zero, suc, Bool, true, false, ◌&&◌, nat_lt, cond, List, [], ◌∷◌, take, drop, slice_get, Option, Some, refl, sym, ap, subst, arith}
use Rattle.std.proofs.lemmas.Bool.{le-ltb, lt-ltb}
use Rattle.std.proofs.lemmas.Cmp.{ranked}
use Rattle.std.proofs.lemmas.List.{take-append-drop}
use Rattle.std.proofs.lemmas.List.Sums.{sum_by-append, sum_by-cons}
use Rattle.std.specs.List.{AllByRecursion, count_by}
use Rattle.std.specs.Ordering.{nat_cmp}
use Rattle.std.specs.declared.cmp.Ordering.TheVariants.{Equal, Less}
use Rattle.btree_slab.specs.Address.{Address}
use Rattle.btree_slab.specs.TreeState.{TreeState, pairs_of}
use Rattle.btree_slab.specs.Answers.{IsFoundAt, IsGapAt}
use Rattle.btree_slab.specs.FindLaws.{found-equal, pair-there}
use Rattle.btree_slab.specs.Navigation.{IsItemAt, IsItemBefore, IsNormalized, IsPrevious}
use Rattle.example_maps.specs.Bookings.{AreApart, IsFirstCandidate, overlaps}

and-false : (b : Bool) → (b && false) ≡ false
and-false true = refl
and-false false = refl

-- a booking that ends too early, and one that begins too late
early : (start end : ℕ) (x : ℕ × ℕ) → x.1 ≤ start → overlaps start end x ≡ false
early start end x low = ap (λ b. nat_lt x.0 end && b) (le-ltb start x.1 low) ∙ and-false (nat_lt x.0 end)

late : (start end : ℕ) (x : ℕ × ℕ) → end ≤ x.0 → overlaps start end x ≡ false
late start end x low = ap (λ b. b && nat_lt start x.1) (le-ltb x.0 end low)

all-at : {X : Type 0} (P : X → Type 0) (xs : List X) (q : ℕ) (x : X) → AllByRecursion P xs → slice_get xs q ≡ Some x → P x
all-at P [] q x all e = absurd (cc)
all-at P (y ∷ ys) zero x all e = let same : y ≡ x = cc in subst P same all.0
all-at P (y ∷ ys) (suc q) x all e = all-at P ys q x all.1 e

skip : {X : Type 0} (p : X → Bool) (x : X) (xs : List X) → p x ≡ false → count_by p (x ∷ xs) ≡ count_by p xs
skip p x xs not = sum_by-cons (λ z. cond (p z) 1 0) x xs ∙ rw not (omega arith)

-- the bookings before one that begins at a time or earlier end by then
pub none-before : (start end : ℕ) (xs : List (ℕ × ℕ)) → AreApart xs → (q : ℕ) (x : ℕ × ℕ) → slice_get xs q ≡ Some x → x.0 ≤ start
    → count_by (overlaps start end) (take q xs) ≡ 0
none-before start end [] apart q x e low = absurd (cc)
none-before start end (y ∷ ys) apart zero x e low = refl
none-before start end (y ∷ ys) apart (suc q) x e low =
    let before : y.1 ≤ x.0 = all-at (λ z. y.1 ≤ z.0) ys q x apart.1 e in
    skip (overlaps start end) y (take q ys) (early start end y (omega arith)) ∙ none-before start end ys apart.2 q x e low

none-late : (start end : ℕ) (xs : List (ℕ × ℕ)) → AllByRecursion (λ z. end ≤ z.0) xs → count_by (overlaps start end) xs ≡ 0
none-late start end [] all = refl
none-late start end (y ∷ ys) all = skip (overlaps start end) y ys (late start end y all.0) ∙ none-late start end ys all.1

all-later : (n m : ℕ) (xs : List (ℕ × ℕ)) → n ≤ m → AllByRecursion (λ z. m ≤ z.0) xs → AllByRecursion (λ z. n ≤ z.0) xs
all-later n m [] low all = tt
all-later n m (y ∷ ys) low all = let here = all.0 in (omega arith, all-later n m ys low all.1)

-- from one on that begins at the end or later, none overlaps
pub none-after : (start end : ℕ) (xs : List (ℕ × ℕ)) → AreApart xs → (q : ℕ) (x : ℕ × ℕ) → slice_get xs q ≡ Some x → end ≤ x.0
    → count_by (overlaps start end) (drop q xs) ≡ 0
none-after start end [] apart q x e low = absurd (cc)
none-after start end (y ∷ ys) apart zero x e low =
    let same : y ≡ x = cc in
    let begins : end ≤ y.0 = subst (λ (z : ℕ × ℕ). end ≤ z.0) (sym same) low in
    let short = apart.0 in
    none-late start end (y ∷ ys) (begins, all-later end y.1 ys (omega arith) apart.1)
none-after start end (y ∷ ys) apart (suc q) x e low = none-after start end ys apart.2 q x e low

-- one booking more
pub count-next : {X : Type 0} (p : X → Bool) (xs : List X) (q : ℕ) (x : X) → slice_get xs q ≡ Some x
    → count_by p (take (suc q) xs) ≡ count_by p (take q xs) + cond (p x) 1 0
count-next p [] q x e = absurd (cc)
count-next p (y ∷ ys) zero x e =
    let same : y ≡ x = cc in
    sum_by-cons (λ z. cond (p z) 1 0) y [] ∙ ap (λ z. cond (p z) 1 0 + 0) same ∙ omega arith
count-next p (y ∷ ys) (suc q) x e =
    let a = sum_by-cons (λ z. cond (p z) 1 0) y (take (suc q) ys) in
    let b = sum_by-cons (λ z. cond (p z) 1 0) y (take q ys) in
    let c = count-next p ys q x e in
    omega arith

-- the count of all, if the rest has none
pub count-all : {X : Type 0} (p : X → Bool) (xs : List X) (q : ℕ) → count_by p (drop q xs) ≡ 0 → count_by p xs ≡ count_by p (take q xs)
count-all p xs q none =
    let parts = sum_by-append (λ x. cond (p x) 1 0) (take q xs) (drop q xs) in
    let whole = ap (count_by p) (take-append-drop q xs) in
    omega arith

module _ (s : TreeState ℕ ℕ) (start : ℕ) (apart : AreApart (pairs_of s)) where
  candidate : (place : ℕ) (found_at : Option Address) → IsItemAt s place found_at → (x : ℕ × ℕ) → slice_get (pairs_of s) place ≡ Some x
      → x.0 ≤ start → IsFirstCandidate s start found_at
  candidate place found_at item x e low = record {
    place = place;
    item = item;
    none_before = λ end. none-before start end (pairs_of s) apart place x e low;
  }

  -- a booking that begins at the time
  pub candidate-found : (a : Address) (found_at : Option Address) → IsFoundAt nat_cmp start s a → IsNormalized s a found_at
      → IsFirstCandidate s start found_at
  candidate-found a found_at f n =
      let itself : found_at ≡ Some a = n.same f.here.occupied in
      let item : IsItemAt s n.place (Some a) = subst (IsItemAt s n.place) itself n.item in
      let x = pair-there s n.place a item.here in
      let key : x.0.0 ≡ start = ranked x.0.0 start Equal (sym (found-equal nat_cmp start (pairs_of s) x.0 (sym f.item ∙ x.2))) in
      candidate n.place found_at n.item x.0 x.1 (omega arith)

  -- the booking before the time
  pub candidate-before : (gap previous : Address) → IsGapAt nat_cmp start s gap → IsPrevious s gap (Some previous)
      → IsFirstCandidate s start (Some previous)
  candidate-before gap previous g p = by p.place refl p.item
    where
      by : (place : ℕ) → p.place ≡ place → IsItemBefore s place (Some previous) → IsFirstCandidate s start (Some previous)
      by zero is before = absurd (cc)
      by (suc q) is before =
          let x = pair-there s q previous before.here in
          let fits = g.fits in
          let there : fits.place ≡ suc q = p.has.only fits.place fits.has.at ∙ is in
          let low : x.0.0 < start = ranked x.0.0 start Less (sym (fits.fits.above q x.0 (sym there) x.1)) in
          candidate q (Some previous) before x.0 x.1 (omega arith)

  module _ (end count place : ℕ) (x : ℕ × ℕ) (here : slice_get (pairs_of s) place ≡ Some x)
      (counted : count ≡ count_by (overlaps start end) (take place (pairs_of s))) where
    pub counted-one : x.0 < end → start < x.1 → count + 1 ≡ count_by (overlaps start end) (take (suc place) (pairs_of s))
    counted-one begins ends =
        let more = count-next (overlaps start end) (pairs_of s) place x here in
        let yes : overlaps start end x ≡ true = rw (lt-ltb x.0 end begins, lt-ltb start x.1 ends) refl in
        let one : cond {A = ℕ} (overlaps start end x) 1 0 ≡ 1 = ap (λ b. cond {A = ℕ} b 1 0) yes in
        omega (arith, one)

    pub counted-none : x.1 ≤ start → count ≡ count_by (overlaps start end) (take (suc place) (pairs_of s))
    counted-none ends =
        let more = count-next (overlaps start end) (pairs_of s) place x here in
        let none : cond {A = ℕ} (overlaps start end x) 1 0 ≡ 0 = ap (λ b. cond {A = ℕ} b 1 0) (early start end x ends) in
        omega (arith, none)

    pub counted-all : end ≤ x.0 → count ≡ count_by (overlaps start end) (pairs_of s)
    counted-all late_start =
        counted ∙ sym (count-all (overlaps start end) (pairs_of s) place (none-after start end (pairs_of s) apart place x here late_start))
