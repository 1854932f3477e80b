-- From what the calls of the map say of addresses to places in the list of ranges.
use Rattle.btree_range_map.proofs.Common.{◌≡◌, ◌≤◌, ◌<◌, ◌∙◌, ℕ, zero, suc, Bool, true, false, List, length, slice_get, Option, Some, None, refl, sym, ap, subst, arith, ◌⊎◌, inl, inr, nat_cmp, IsSome, lt-ltb, same_Some, slice_get_within, KeyFits, Address, TreeState, item_of, pairs_of, HasPlace, IsItemAddress, IsItemAt, IsNormalized, IsPrevious, Span, EndsBy, IsRangeAround, StartsFrom, AreRuns, CutsOne, value_at, between-from}
use Rattle.std.proofs.Common.{Result, Ok, Err}
use Rattle.std.specs.declared.cmp.Ordering.TheVariants.{Equal, Less}
use Rattle.std.specs.Prelude.{IfErr, IfSome, OnErr}
use Rattle.std.proofs.lemmas.Cmp.{ranked}
use Rattle.btree_laws.specs.Place.{IsOccupied}
use Rattle.btree_laws.specs.TreeState.{node_map}
use Rattle.btree_find.specs.Answers.{IsFoundAt, IsGapAt}
use Rattle.btree_find.specs.CallerLaws.{pair-there}
use Rattle.btree_find.specs.Navigation.{IsItemBefore, IsNext}
use Rattle.btree_range_map.specs.Places.{IsApart}
use Rattle.btree_range_map.specs.Steps.{IsPlaceFor}
use Rattle.btree_range_map.specs.Ranges.{ClonesEqual, TellsSame}
use Rattle.btree_range_map.proofs.RunLemmas.{run-at, value-here, value-none}

pub less-from : (x y : ℕ) → x < y → nat_cmp x y ≡ Less
less-from x y lt = rw (lt-ltb x y lt) refl

module _ {V : Type 0} (s : TreeState ℕ (Span V)) where
  -- ---- an address that a search found
  module _ (k : ℕ) (a : Address) (f : IsFoundAt nat_cmp k s a) where
    pub found-range : (x : ℕ × Span V) × (slice_get (pairs_of s) f.replaces.place ≡ Some x) × (item_of s a ≡ Some x) × (x.0 ≡ k)
    found-range =
        let there = pair-there s f.replaces.place a f.here in
        let equal = subst (λ o. IfSome o (λ x. nat_cmp x.0 k ≡ Equal)) there.2 f.same in
        (there.0, there.1, there.2, ranked there.0.0 k Equal (sym equal))

    pub found-item-at : IsItemAt s f.replaces.place (Some a)
    found-item-at = record { listed = sym f.listed; here = f.here; past = λ none. absurd (cc) }

  -- ---- the items beside an address
  module _ (a : Address) (place : ℕ) (has : HasPlace s a place) where
    pub previous-place : (o : Option Address) → IsPrevious s a o → IsItemBefore s place o
    previous-place o p = subst (λ q. IsItemBefore s q o) (has.only p.place p.has.at) p.item

    pub normal-place : (o : Option Address) → IsNormalized s a o → IsItemAt s place o
    normal-place o p = subst (λ q. IsItemAt s q o) (has.only p.place p.has.at) p.item

  -- the item after the one at an address
  pub next-at : (a : Address) (place : ℕ) → IsItemAddress s place a → (o : Option Address) → IsNext s a o → IsItemAt s (suc place) o
  next-at a place here o p = subst (λ q. IsItemAt s (suc q) o) (here.has.only p.place p.has.at) (p.after here.occupied)

  pub before-some : (place : ℕ) (b : Address) → IsItemBefore s place (Some b) → (q : ℕ) × (suc q ≡ place) × IsItemAddress s q b
  before-some zero b is = absurd (cc)
  before-some (suc q) b is = (q, refl, is.here)

  pub before-none : (place : ℕ) → place ≤ length (pairs_of s) → IsItemBefore s place None → place ≡ 0
  before-none zero within is = refl
  before-none (suc q) within is = let past = is.past refl in absurd (omega (arith, past, within))

  -- the range that was read at an address
  pub read-range : (place : ℕ) (a : Address) (x : ℕ × Span V) → IsItemAddress s place a → item_of s a ≡ Some x → slice_get (pairs_of s) place ≡ Some x
  read-range place a x is read = sym is.item ∙ read

-- ---- a gap, and the ranges beside it
module _ {V : Type 0} (s : TreeState ℕ (Span V)) (gap : Address) (k place : ℕ) (has : HasPlace s gap place) (fits : KeyFits nat_cmp k place (pairs_of s)) where
  pub gap-above : (q : ℕ) (x : ℕ × Span V) → suc q ≡ place → slice_get (pairs_of s) q ≡ Some x → x.0 < k
  gap-above q x next at = ranked x.0 k Less (sym (fits.above q x next at))

  pub gap-below : StartsFrom (pairs_of s) place (suc k)
  gap-below x at = let less : k < x.0 = ranked k x.0 Less (sym (fits.below x at)) in omega (arith, less)

  -- the range before it, which was read
  pub before-read : (b : Address) (x : ℕ × Span V) → IsPrevious s gap (Some b) → item_of s b ≡ Some x
      → (q : ℕ) × (suc q ≡ place) × IsItemAddress s q b × (slice_get (pairs_of s) q ≡ Some x) × (x.0 < k)
  before-read b x previous read =
      let there = before-some s place b (previous-place s gap place has (Some b) previous) in
      let listed = read-range s there.0 b x there.2 read in
      (there.0, there.1, there.2, listed, gap-above there.0 x there.1 listed)

  pub ends-some : (b : Address) (x : ℕ × Span V) (n : ℕ) → IsPrevious s gap (Some b) → item_of s b ≡ Some x → x.1.end ≤ n → EndsBy (pairs_of s) place n
  ends-some b x n previous read low q y next at =
      let there = before-read b x previous read in
      let same : q ≡ there.0 = omega (arith, next, there.1) in
      let is : y ≡ x = same_Some _ _ (sym at ∙ ap (slice_get (pairs_of s)) same ∙ there.3) in
      let end = ap (λ (z : ℕ × Span V). z.1.end) is in
      omega (arith, end, low)

  pub ends-none : (n : ℕ) → IsPrevious s gap None → EndsBy (pairs_of s) place n
  ends-none n previous q y next at =
      let first = before-none s place fits.within (previous-place s gap place has None previous) in
      absurd (omega (arith, next, first))

module _ {V : Type 0} where
  -- ---- the range that a number is in
  pub around-found : (s : TreeState ℕ (Span V)) (n : ℕ) (a : Address) (x : ℕ × Span V) → IsFoundAt nat_cmp n s a → item_of s a ≡ Some x → AreRuns (pairs_of s) → IsRangeAround (pairs_of s) n x
  around-found s n a x f read runs =
      let r = found-range s n a f in
      let same : r.0 ≡ x = same_Some _ _ (sym r.2 ∙ read) in
      let some = run-at 0 (pairs_of s) f.replaces.place r.0 runs.ascend r.1 in
      subst (IsRangeAround (pairs_of s) n) same
      (record { index = f.replaces.place; listed = r.1; inside = between-from r.0.0 r.0.1.end n (omega (arith, r.3)) (omega (arith, r.3, some.1)) })

module _ {V : Type 0} (s : TreeState ℕ (Span V)) (n : ℕ) (gap : Address) (place : ℕ) (has : HasPlace s gap place) (fits : KeyFits nat_cmp n place (pairs_of s)) where
  pub around-before : (b : Address) (x : ℕ × Span V) → IsPrevious s gap (Some b) → item_of s b ≡ Some x → n < x.1.end → IsRangeAround (pairs_of s) n x
  around-before b x previous read high =
      let there = before-read s gap n place has fits b x previous read in
      record { index = there.0; listed = there.3; inside = between-from x.0 x.1.end n (omega (arith, there.4)) high }

  pub around-none : AreRuns (pairs_of s) → EndsBy (pairs_of s) place n → value_at (pairs_of s) n ≡ None
  around-none runs ends = value-none 0 (pairs_of s) place n runs.ascend fits.within ends (gap-below s gap n place has fits)

module _ {V : Type 0} where
  pub cuts-one : {X Y : Type 0} (r : Result X Y) (ranges : List (ℕ × Span V)) (start end q : ℕ) (x : ℕ × Span V) → start < end → slice_get ranges q ≡ Some x → x.0 < start → end < x.1.end
      → OnErr r (CutsOne ranges start end)
  cuts-one (Ok v) ranges start end q x some at left right = tt
  cuts-one (Err v) ranges start end q x some at left right = record { some = some; index = q; range = x; here = at; left = left; right = right }

-- what holds also where a call was refused
pub on-error : {X Y : Type 0} (r : Result X Y) (P : Type 0) → P → OnErr r P
on-error (Ok v) P holds = tt
on-error (Err v) P holds = holds

module _ {V : Type 0} where
  -- the value of the range that a number is in
  pub around-value : (ranges : List (ℕ × Span V)) (n : ℕ) (x : ℕ × Span V) → AreRuns ranges → IsRangeAround ranges n x → value_at ranges n ≡ Some x.1.value
  around-value ranges n x runs around = value-here 0 ranges around.index x runs.ascend around.listed n around.inside

  -- ---- the address of a number
  pub place-found : (s : TreeState ℕ (Span V)) (n : ℕ) (a : Address) → IsFoundAt nat_cmp n s a → IsPlaceFor s n a
  place-found s n a f =
      let r = found-range s n a f in
      let within = slice_get_within (pairs_of s) f.replaces.place r.0 r.1 in
      record {
        valid = f.here.valid;
        back = occupied-back a.offset f.here.occupied;
        place = f.replaces.place;
        has = f.here.has;
        within = omega (arith, within);
        below = λ q x next at. ranked x.0 n Less (sym (f.replaces.replaces.above q x next at));
        starts = λ x at. let first = ap (λ (z : ℕ × Span V). z.0) (same_Some _ _ (sym r.1 ∙ at)) in let same = r.3 in omega (arith, first, same);
      }
    where
      occupied-back : (o : Option ℕ) → IsOccupied (node_map s) a.id o → IsSome o
      occupied-back None is = absurd is
      occupied-back (Some i) is = refl

  pub place-gap : (s : TreeState ℕ (Span V)) (n : ℕ) (gap : Address) → IsGapAt nat_cmp n s gap → IsPlaceFor s n gap
  place-gap s n gap g = record {
    valid = g.valid;
    back = g.back;
    place = g.fits.place;
    has = g.fits.has;
    within = g.fits.fits.within;
    below = λ q x next at. gap-above s gap n g.fits.place g.fits.has g.fits.fits q x next at;
    starts = λ x at. let less = gap-below s gap n g.fits.place g.fits.has g.fits.fits x at in omega (arith, less);
  }

-- ---- what `==` of two values told
module _ {V : Type 0} (eq : V → V → Bool) (tells : TellsSame eq) (x y : V) (told : Bool) (is : told ≡ eq x y) where
  pub told-same : told ≡ true → x ≡ y
  told-same answer = (tells x y).0 (sym is ∙ answer)

  pub told-apart : told ≡ false → x ≡ y → ⊥
  told-apart answer same = let other : told ≡ true = is ∙ (tells x y).1 same in absurd (cc)

-- numbers that end before a range do not touch it
module _ {V : Type 0} (ranges : List (ℕ × Span V)) (place : ℕ) (span : Span V) (range : ℕ × Span V) (listed : slice_get ranges place ≡ Some range) (past : span.end < range.0) where
  same-start : (x : ℕ × Span V) → slice_get ranges place ≡ Some x → range.0 ≡ x.0
  same-start x at = ap (λ (y : ℕ × Span V). y.0) (same_Some _ _ (sym listed ∙ at))

  pub past-apart : IsApart ranges place span
  past-apart = record {
    starts = λ x at. omega (arith, past, same-start x at);
    differ = λ x at end same. absurd (omega (arith, past, same-start x at, end));
  }

-- a call was refused that adds two ranges where numbers are inside one
pub refused-two : {X Y : Type 0} (r : Result X Y) (P Q R : Y → Type 0) (C : Type 0) → C → IfErr r Q → IfErr r (λ y. P y ⊎ (C × Q y) ⊎ R y)
refused-two (Ok v) P Q R C cuts is = tt
refused-two (Err v) P Q R C cuts is = inr (inl (cuts, is))

-- a clone of a span
pub clone-same : {V : Type 0} (is_clone : V → V → Type 0) → ClonesEqual is_clone → (span copy : Span V) → (copy.end ≡ span.end) × is_clone span.value copy.value → copy ≡ span
clone-same is_clone clones span copy is =
    let value = clones span.value copy.value is.1 in
    λ i. record { end = is.0 i; value = value i }
