-- From what the calls of the map say of addresses to places in the list of ranges.
use Rattle.btree_range_set.proofs.Common.{◌≡◌, ◌≤◌, ◌<◌, ◌∙◌, ℕ, zero, suc, false, List, length, slice_get, Option, Some, None, refl, sym, ap, subst, arith, nat_cmp, lt-ltb, same_Some, slice_get_within, KeyFits, Address, TreeState, item_of, pairs_of, IsFoundAt, HasPlace, IsNormalized, IsPrevious, within-from, EndsBefore, IsRangeAround, StartsAfter, AreRuns, has_number}
use Rattle.std.proofs.Common.{Result, Ok, Err}
use Rattle.std.specs.declared.cmp.Ordering.TheVariants.{Equal, Less}
use Rattle.std.specs.Prelude.{IfNone, IfSome, OnErr, is_some}
use Rattle.std.proofs.lemmas.Cmp.{ranked}
use Rattle.btree_find.specs.CallerLaws.{pair-there}
use Rattle.btree_find.specs.Navigation.{IsItemAddress, IsItemAt, IsItemBefore}
use Rattle.btree_range_set.specs.Ranges.{CutsOne}
use Rattle.btree_range_set.proofs.RunLemmas.{has-here, has-none, run-at}

pub less-from : (x y : ℕ) → x < y → nat_cmp x y ≡ Less
less-from x y lt = rw (lt-ltb x y lt) refl

module _ (s : TreeState ℕ ℕ) where
  -- ---- an address that a search found
  module _ (k : ℕ) (a : Address) (f : IsFoundAt nat_cmp k s a) where
    pub found-range : (x : ℕ × ℕ) × (slice_get (pairs_of s) f.replaces.place ≡ Some x) × (item_of s a ≡ Some x) × (x.0 ≡ k)
    found-range =
        let there = pair-there s f.replaces.place a f.here in
        let equal = subst (λ o. IfSome o (λ x. nat_cmp x.0 k ≡ Equal)) there.2 f.same in
        (there.0, there.1, there.2, ranked there.0.0 k Equal (sym equal))

    pub found-item-at : IsItemAt s f.replaces.place (Some a)
    found-item-at = record { listed = sym f.listed; here = f.here; past = λ none. absurd (cc) }

  -- ---- the items beside an address
  module _ (a : Address) (place : ℕ) (has : HasPlace s a place) where
    pub previous-place : (o : Option Address) → IsPrevious s a o → IsItemBefore s place o
    previous-place o p = subst (λ q. IsItemBefore s q o) (has.only p.place p.has.at) p.item

    pub normal-place : (o : Option Address) → IsNormalized s a o → IsItemAt s place o
    normal-place o p = subst (λ q. IsItemAt s q o) (has.only p.place p.has.at) p.item

  pub before-some : (place : ℕ) (b : Address) → IsItemBefore s place (Some b) → (q : ℕ) × (suc q ≡ place) × IsItemAddress s q b
  before-some zero b is = absurd (cc)
  before-some (suc q) b is = (q, refl, is.here)

  pub before-none : (place : ℕ) → place ≤ length (pairs_of s) → IsItemBefore s place None → place ≡ 0
  before-none zero within is = refl
  before-none (suc q) within is = let past = is.past refl in absurd (omega (arith, past, within))

  -- the range that was read at an address
  pub read-range : (place : ℕ) (a : Address) (x : ℕ × ℕ) → IsItemAddress s place a → item_of s a ≡ Some x → slice_get (pairs_of s) place ≡ Some x
  read-range place a x is read = sym is.item ∙ read

-- ---- a gap, and the ranges beside it
module _ (s : TreeState ℕ ℕ) (gap : Address) (k place : ℕ) (has : HasPlace s gap place) (fits : KeyFits nat_cmp k place (pairs_of s)) where
  pub gap-above : (q : ℕ) (x : ℕ × ℕ) → suc q ≡ place → slice_get (pairs_of s) q ≡ Some x → x.0 < k
  gap-above q x next at = ranked x.0 k Less (sym (fits.above q x next at))

  pub gap-below : StartsAfter (pairs_of s) place k
  gap-below x at = ranked k x.0 Less (sym (fits.below x at))

  -- the range before it, which was read
  pub before-read : (b : Address) (x : ℕ × ℕ) → IsPrevious s gap (Some b) → item_of s b ≡ Some x
      → (q : ℕ) × (suc q ≡ place) × IsItemAddress s q b × (slice_get (pairs_of s) q ≡ Some x) × (x.0 < k)
  before-read b x previous read =
      let there = before-some s place b (previous-place s gap place has (Some b) previous) in
      let listed = read-range s there.0 b x there.2 read in
      (there.0, there.1, there.2, listed, gap-above there.0 x there.1 listed)

  pub ends-some : (b : Address) (x : ℕ × ℕ) (n : ℕ) → IsPrevious s gap (Some b) → item_of s b ≡ Some x → x.1 < n → EndsBefore (pairs_of s) place n
  ends-some b x n previous read low q y next at =
      let there = before-read b x previous read in
      let same : q ≡ there.0 = omega (arith, next, there.1) in
      let is : y ≡ x = same_Some _ _ (sym at ∙ ap (slice_get (pairs_of s)) same ∙ there.3) in
      let end = ap (λ (z : ℕ × ℕ). z.1) is in
      omega (arith, end, low)

  pub ends-none : (n : ℕ) → IsPrevious s gap None → EndsBefore (pairs_of s) place n
  ends-none n previous q y next at =
      let first = before-none s place fits.within (previous-place s gap place has None previous) in
      absurd (omega (arith, next, first))

  pub starts-some : (b : Address) (x : ℕ × ℕ) (n : ℕ) → IsNormalized s gap (Some b) → item_of s b ≡ Some x → n < x.0 → StartsAfter (pairs_of s) place n
  starts-some b x n normal read low y at =
      let item = (normal-place s gap place has (Some b) normal).here in
      let is : y ≡ x = same_Some _ _ (sym at ∙ read-range s place b x item read) in
      let start = ap (λ (z : ℕ × ℕ). z.0) is in
      omega (arith, start, low)

  pub starts-none : (n : ℕ) → IsNormalized s gap None → StartsAfter (pairs_of s) place n
  starts-none n normal y at =
      let past = (normal-place s gap place has None normal).past refl in
      let within = slice_get_within (pairs_of s) place y at in
      absurd (omega (arith, past, within))

-- ---- the range that a number is in
pub around-found : (s : TreeState ℕ ℕ) (n : ℕ) (a : Address) (x : ℕ × ℕ) → IsFoundAt nat_cmp n s a → item_of s a ≡ Some x → AreRuns (pairs_of s) → IsRangeAround (pairs_of s) n x
around-found s n a x f read runs =
    let r = found-range s n a f in
    let same : r.0 ≡ x = same_Some _ _ (sym r.2 ∙ read) in
    let some = run-at 0 (pairs_of s) f.replaces.place r.0 runs r.1 in
    subst (IsRangeAround (pairs_of s) n) same
    (record { index = f.replaces.place; listed = r.1; inside = within-from r.0 n (omega (arith, r.3)) (omega (arith, r.3, some.1)) })

module _ (s : TreeState ℕ ℕ) (n : ℕ) (gap : Address) (place : ℕ) (has : HasPlace s gap place) (fits : KeyFits nat_cmp n place (pairs_of s)) where
  pub around-before : (b : Address) (x : ℕ × ℕ) → IsPrevious s gap (Some b) → item_of s b ≡ Some x → n < x.1 → IsRangeAround (pairs_of s) n x
  around-before b x previous read high =
      let there = before-read s gap n place has fits b x previous read in
      record { index = there.0; listed = there.3; inside = within-from x n (omega (arith, there.4)) high }

  pub around-none : AreRuns (pairs_of s) → EndsBefore (pairs_of s) place (suc n) → has_number (pairs_of s) n ≡ false
  around-none runs ends = has-none 0 (pairs_of s) place n runs fits.within ends (gap-below s gap n place has fits)

pub cuts-one : {X Y : Type 0} (r : Result X Y) (ranges : List (ℕ × ℕ)) (start end q : ℕ) (x : ℕ × ℕ) → start < end → slice_get ranges q ≡ Some x → x.0 < start → end < x.1
    → OnErr r (CutsOne ranges start end)
cuts-one (Ok v) ranges start end q x some at left right = tt
cuts-one (Err v) ranges start end q x some at left right = record { some = some; index = q; range = x; here = at; left = left; right = right }

-- whether there is such a range
pub around-told : (ranges : List (ℕ × ℕ)) (n : ℕ) (o : Option (ℕ × ℕ)) → IfSome o (IsRangeAround ranges n) → IfNone o (has_number ranges n ≡ false) → is_some o ≡ has_number ranges n
around-told ranges n None around none = sym none
around-told ranges n (Some x) around none = sym (has-here ranges around.index x around.listed n around.inside)
