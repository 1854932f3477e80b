-- A range that is put inside another one: two are added, or none.
use Rattle.btree_range_map.proofs.Common.{◌≡◌, ◌≤◌, ◌<◌, ◌∙◌, ℕ, suc, Bool, true, false, cond, List, length, set, slice_get, Option, Some, None, refl, sym, ap, subst, arith, insert, length-set, same_Some, slice_get_within, nat_cmp, Address, TreeState, pairs_of, FitsAt, HasPlace, IsItemAddress, IsPrevious, value-list, InsertsAt, SetsEnd, Span, AreRuns, IsAssigned, is_between, is_within, value_at, Assigns}
use Rattle.std.proofs.lemmas.List.Edits.{length-insert}
use Rattle.btree_range_map.specs.Steps.{CanSplit}
use Rattle.btree_range_map.proofs.KeptLemmas.{sets-end}
use Rattle.btree_range_map.proofs.LimitLemmas.{put-limit}
use Rattle.btree_range_map.proofs.ListLemmas.{get-inserted-before, get-put, get-put-below, get-set, set-insert}
use Rattle.btree_range_map.proofs.PlaceLemmas.{less-from, previous-place}
use Rattle.btree_range_map.proofs.RunLemmas.{runs-put, value-put}
use Rattle.btree_range_map.proofs.StepLemmas.{cut-cleared, cut-runs}

-- ---- the list: the range x at a place becomes l, m and r
module _ {V : Type 0} (xs : List (ℕ × Span V)) (q s e : ℕ) (v : V) (x l m r : ℕ × Span V) (runs : AreRuns xs) (at : slice_get xs q ≡ Some x)
    (l_is : l ≡ (x.0, record { end = s; value = x.1.value })) (m_is : m ≡ (s, record { end = e; value = v })) (r_is : r ≡ (e, x.1))
    (left : x.0 < s) (some : s < e) (right : e < x.1.end) (differ : v ≡ x.1.value → ⊥) where
  within : q < length xs
  within = slice_get_within xs q x at

  -- without m, the list is that of a cut
  abbrev outer : List (ℕ × Span V)
  outer = insert (set xs q l) (suc q) r

  outer-length : suc q ≤ length outer
  outer-length =
      let room = within in
      let same = length-set xs q l in
      let longer = length-insert (set xs q l) (suc q) r (omega (arith, room, same)) in
      omega (arith, room, same, longer)

  outer-left : slice_get outer q ≡ Some l
  outer-left =
      let room = within in
      let same = length-set xs q l in
      get-put-below (set xs q l) (suc q) q r (omega arith) (omega (arith, room, same)) ∙ get-set xs q l within

  outer-right : slice_get outer (suc q) ≡ Some r
  outer-right = let room = within in let same = length-set xs q l in get-put (set xs q l) (suc q) r (omega (arith, room, same))

  pub split-runs : AreRuns (insert (insert (set xs q l) (suc q) r) (suc q) m)
  split-runs =
      let first : m.0 ≡ s = ap (λ (z : ℕ × Span V). z.0) m_is in
      let last : m.1.end ≡ e = ap (λ (z : ℕ × Span V). z.1.end) m_is in
      let value : m.1.value ≡ v = ap (λ (z : ℕ × Span V). z.1.value) m_is in
      runs-put outer (suc q) m (cut-runs xs q s e x l r runs at l_is r_is left some right) outer-length (omega (arith, first, last, some))
      (λ p y next there.
      let p_is : p ≡ q = omega (arith, next) in
      let is : y ≡ l = same_Some _ _ (sym there ∙ ap (slice_get outer) p_is ∙ outer-left) in
      let end : y.1.end ≡ s = ap (λ (z : ℕ × Span V). z.1.end) (is ∙ l_is) in
      omega (arith, end, first))
      (λ z there.
      let is : z ≡ r = same_Some _ _ (sym there ∙ outer-right) in
      let start : z.0 ≡ e = ap (λ (z : ℕ × Span V). z.0) (is ∙ r_is) in
      omega (arith, start, last))
      (λ p y next there touch values.
      let p_is : p ≡ q = omega (arith, next) in
      let is : y ≡ l = same_Some _ _ (sym there ∙ ap (slice_get outer) p_is ∙ outer-left) in
      let was : y.1.value ≡ x.1.value = ap (λ (z : ℕ × Span V). z.1.value) (is ∙ l_is) in
      differ (sym value ∙ sym values ∙ was))
      (λ z there touch values.
      let is : z ≡ r = same_Some _ _ (sym there ∙ outer-right) in
      let was : z.1.value ≡ x.1.value = ap (λ (z : ℕ × Span V). z.1.value) (is ∙ r_is) in
      differ (sym value ∙ values ∙ was))

  over : (b : Bool) (y z : Option V) → cond b y (cond b None z) ≡ cond b y z
  over true y z = refl
  over false y z = refl

  pub split-assigned : IsAssigned xs s e v (insert (insert (set xs q l) (suc q) r) (suc q) m)
  split-assigned n =
      value-put 0 outer (suc q) m split-runs.ascend outer-length n
      ∙ ap (λ (z : ℕ × Span V). cond (is_within z n) (Some z.1.value) (value_at outer n)) m_is
      ∙ ap (λ o. cond (is_between s e n) (Some v) o) (cut-cleared xs q s e x l r runs at l_is r_is left some right n)
      ∙ over (is_between s e n) (Some v) (value_at xs n)

-- ---- the steps
module _ {V : Type 0} (s : TreeState ℕ (Span V)) (at : Address) (start : ℕ) (span last : Span V) (can : CanSplit s at start span last) where
  abbrev whole : ℕ × Span V
  whole = (can.cut.first, last)

  room : can.cut.before < length (pairs_of s)
  room = slice_get_within (pairs_of s) can.cut.before whole can.cut.listed

  module _ (mid : TreeState ℕ (Span V)) (right : Address) (r : ℕ × Span V) (r_is : r ≡ (span.end, last)) (puts : InsertsAt s mid at nat_cmp right r) where
    place_is : puts.place ≡ suc can.cut.before
    place_is = can.cut.has.only puts.place puts.has.at

    mid-pairs : pairs_of mid ≡ insert (pairs_of s) (suc can.cut.before) r
    mid-pairs = puts.pairs ∙ ap (λ p. insert (pairs_of s) p r) place_is

    mid-place : HasPlace mid right (suc can.cut.before)
    mid-place = subst (λ p. HasPlace mid right p) place_is puts.there

    mid-before : slice_get (pairs_of mid) can.cut.before ≡ Some whole
    mid-before = ap (λ xs. slice_get xs can.cut.before) mid-pairs ∙ get-inserted-before (pairs_of s) can.cut.before r room ∙ can.cut.listed

    mid-right : slice_get (pairs_of mid) (suc can.cut.before) ≡ Some r
    mid-right = let lt = room in ap (λ xs. slice_get xs (suc can.cut.before)) mid-pairs ∙ get-put (pairs_of s) (suc can.cut.before) r (omega (arith, lt))

    mid-length : length (pairs_of mid) ≡ suc (length (pairs_of s))
    mid-length = let lt = room in let longer = length-insert (pairs_of s) (suc can.cut.before) r (omega (arith, lt)) in ap length mid-pairs ∙ omega (arith, longer)

    pub split-fits : FitsAt nat_cmp start mid right
    split-fits = record {
      place = suc can.cut.before;
      has = mid-place;
      fits = record {
        within = let lt = room in let longer = mid-length in omega (arith, lt, longer);
        above = λ p x next there.
            let p_is : p ≡ can.cut.before = omega (arith, next) in
            let is : x ≡ whole = same_Some _ _ (sym there ∙ ap (slice_get (pairs_of mid)) p_is ∙ mid-before) in
            let first : x.0 ≡ can.cut.first = ap (λ (z : ℕ × Span V). z.0) is in
            less-from x.0 start (omega (arith, first, can.cut.left));
        below = λ x there.
            let is : x ≡ r = same_Some _ _ (sym there ∙ mid-right) in
            let first : x.0 ≡ span.end = ap (λ (z : ℕ × Span V). z.0) (is ∙ r_is) in
            less-from start x.0 (omega (arith, first, can.cut.some));
      };
    }

    pub split-some : (late : TreeState ℕ (Span V)) (middle : Address) (m : ℕ × Span V) → InsertsAt mid late right nat_cmp middle m → IsPrevious late middle None → ⊥
    split-some late middle m again previous =
        let q = can.cut.before in
        let lt = room in
        let second : again.place ≡ suc q = mid-place.only again.place again.has.at in
        let there : HasPlace late middle (suc q) = subst (λ p. HasPlace late middle p) second again.there in
        let past = (previous-place late middle (suc q) there None previous).past refl in
        let longer = ap length (again.pairs ∙ ap (λ p. insert (pairs_of mid) p m) second) in
        let count = mid-length in
        let one_more = length-insert (pairs_of mid) (suc q) m (omega (arith, count, lt)) in
        absurd (omega (arith, past, lt, longer, count, one_more))

    pub split-done : (late new : TreeState ℕ (Span V)) (middle left : Address) (m : ℕ × Span V) → m ≡ (start, span)
        → InsertsAt mid late right nat_cmp middle m → IsPrevious late middle (Some left) → SetsEnd late new left start → Assigns s new start span
    split-done late new middle left m m_is again previous sets =
        let q = can.cut.before in
        let xs = pairs_of s in
        let lt = room in
        let l : ℕ × Span V = (can.cut.first, record { end = start; value = last.value }) in
        let l_is : l ≡ (can.cut.first, record { end = start; value = last.value }) = refl in
        let second : again.place ≡ suc q = mid-place.only again.place again.has.at in
        let pairs : pairs_of late ≡ insert (insert xs (suc q) r) (suc q) m =
        again.pairs ∙ ap (λ p. insert (pairs_of mid) p m) second ∙ ap (λ zs. insert zs (suc q) m) mid-pairs in
        let there : HasPlace late middle (suc q) = subst (λ p. HasPlace late middle p) second again.there in
        let item : IsItemAddress late q left = (previous-place late middle (suc q) there (Some left) previous).here in
        let inner : q < length (insert xs (suc q) r) = (let longer = length-insert xs (suc q) r (omega (arith, lt)) in omega (arith, longer, lt)) in
        let listed : slice_get (pairs_of late) q ≡ Some whole =
        ap (λ zs. slice_get zs q) pairs ∙ get-inserted-before (insert xs (suc q) r) q m inner ∙ get-inserted-before xs q r room ∙ can.cut.listed in
        let e = sets-end late new left start whole (item.item ∙ listed) sets in
        let final : pairs_of new ≡ insert (insert (set xs q l) (suc q) r) (suc q) m =
        value-list nat_cmp late new left q last l.1 whole item listed e
        ∙ ap (λ zs. set zs q l) pairs
        ∙ set-insert (insert xs (suc q) r) q m l inner
        ∙ ap (λ zs. insert zs (suc q) m) (set-insert xs q r l room) in
        let P : List (ℕ × Span V) → Type 0 = AreRuns in
        record {
          assigned = λ n.
              ap (λ zs. value_at zs n) final
              ∙ split-assigned xs q start span.end span.value whole l m r can.cut.runs can.cut.listed l_is m_is r_is can.cut.left can.cut.some can.cut.right can.differ n;
          runs = subst P (sym final) (split-runs xs q start span.end span.value whole l m r can.cut.runs can.cut.listed l_is m_is r_is can.cut.left can.cut.some can.cut.right can.differ);
          uncounted = e.exchanged.uncounted ∙ again.inserted.uncounted ∙ puts.inserted.uncounted;
          bounded = λ more.
              let count = ap length e.exchanged.pairs ∙ length-set (pairs_of late) e.exchanged.place (e.key, l.1) in
              let within = mid-length in
              let limit = put-limit mid late right middle (suc q) m mid-place (omega (arith, within, lt)) again in
              let same = ap (λ k. k.limit) puts.inserted.uncounted in
              omega (arith, count, limit, same);
        }
