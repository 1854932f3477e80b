-- Whether a key fits, from the items around a place.
use Rattle.btree_find.proofs.Common.{◌≡◌, ◌<◌, ◌≤◌, ◌∙◌, ◌+◌, ℕ, zero, suc, inl, inr, List, length, length-append, ◌++◌, Option, Some, None, IsSome, refl, sym, ap, subst, slice_get, arith, IsTotalOrder, Ordering, Less, Address, NodeMap, item_in, IsOccupied, IsPlace, IsSubtreeAt, TreeState, IsBTree, IsOccupiedIn, IsPlaceIn, item_of, node_map, pairs_of, address_at, address_before, pairs_below, HasPlace, IsItemAt, IsItemBefore, IsNext, IsNormalized, IsPrevious}
use Rattle.std.proofs.Common.{IfSome}
use Rattle.std.proofs.lemmas.Option.{slice_get_within}
use Rattle.btree_laws.specs.Place.{IsPlaceOf}
use Rattle.btree_find.specs.Fits.{FitsAt, FitsIn, ReplacesAt}
use Rattle.btree_find.proofs.PlaceLemmas.{item-here}

-- a place is at most the length of the list
module _ {A : Type 0} (node_at : NodeMap A) (xs : List A) where
  low-subtree : (id : ℕ) (ys : List A) (before : ℕ) → IsSubtreeAt node_at xs id ys before → before + length ys ≤ length xs
  low-subtree id ys before at =
      let c = at.counted in
      let n = length-append (at.front ++ ys) at.back in
      let m = length-append at.front ys in
      let l = ap length at.split in
      omega arith

  low-item : (o : Option A) (place : ℕ) → IsPlaceOf node_at xs o place → place ≤ length xs
  low-item None place at = absurd at
  low-item (Some x) place at = let w = slice_get_within xs place x at in omega arith

  -- no place is past the end of the list
  pub place-low : (root : Option ℕ) (id : ℕ) (offset : Option ℕ) (place : ℕ) → IsPlace node_at root xs id offset place → place ≤ length xs
  place-low None id offset place at = let z = at.1 in omega arith
  place-low (Some root) id None place at = let l = low-subtree id at.0 place at.1 in omega arith
  place-low (Some root) id (Some offset) place (inl at) = low-item (item_in (node_at id) offset) place at
  place-low (Some root) id (Some offset) place (inr at) =
      let l = low-subtree id at.1.0 at.1.1 at.1.2 in
      let e = at.1.3 in
      omega arith

module _ {K V : Type 0} (s : TreeState K V) where
  -- an item is at an occupied address
  pub occupied-item : (a : Address) → IsOccupiedIn s a → IsSome (item_of s a)
  occupied-item a = by a.offset
    where
      by : (o : Option ℕ) → IsOccupied (node_map s) a.id o → IsSome (item_of s (record { id = a.id; offset = o }))
      by None is = absurd is
      by (Some n) is = rw is.1 refl

  -- an address with an item is occupied
  pub item-occupied : (a : Address) → IsSome (item_of s a) → IsOccupiedIn s a
  item-occupied a = by a.offset
    where
      some : (o : Option (K × V)) → IsSome o → (x : K × V) × (o ≡ Some x)
      some None is = absurd (cc)
      some (Some x) is = (x, refl)

      by : (o : Option ℕ) → IsSome (item_of s (record { id = a.id; offset = o })) → IsOccupied (node_map s) a.id o
      by None is = absurd (cc)
      by (Some n) is = some (item_in (node_map s a.id) n) is

  -- what holds of the item at an address, if there is one
  abbrev pub OfItem : (P : K × V → Type 0) → Option Address → Type 0
  OfItem P found = IfSome found (λ b. IfSome (item_of s b) P)

  module _ (P : K × V → Type 0) where
    at-item : (place : ℕ) (found : Option Address) → IsItemAt s place found → OfItem P found
        → (x : K × V) → slice_get (pairs_of s) place ≡ Some x → P x
    at-item place None is all x e =
        let l = is.past refl in
        let w = slice_get_within (pairs_of s) place x e in
        absurd (omega arith)
    at-item place (Some b) is all x e = subst (λ o. IfSome o P) (is.here.item ∙ e) all

    on-item : (place : ℕ) (found : Option Address) → IsItemAt s place found
        → ((x : K × V) → slice_get (pairs_of s) place ≡ Some x → P x) → OfItem P found
    on-item place None is each = tt
    on-item place (Some b) is each = by (slice_get (pairs_of s) place) refl
      where
        by : (o : Option (K × V)) → slice_get (pairs_of s) place ≡ o → IfSome (item_of s b) P
        by None e = subst (λ o. IfSome o P) (sym (is.here.item ∙ e)) tt
        by (Some x) e = subst (λ o. IfSome o P) (sym (is.here.item ∙ e)) (each x e)

    at-before : (place : ℕ) (found : Option Address) → IsItemBefore s place found → OfItem P found
        → (q : ℕ) (x : K × V) → suc q ≡ place → slice_get (pairs_of s) q ≡ Some x → P x
    at-before zero found is all q x e at = absurd (omega arith)
    at-before (suc r) found is all q x e at =
        let same : q ≡ r = omega arith in
        at-item r found is all x (subst (λ n. slice_get (pairs_of s) n ≡ Some x) same at)

    on-before : (place : ℕ) (found : Option Address) → IsItemBefore s place found
        → ((q : ℕ) (x : K × V) → suc q ≡ place → slice_get (pairs_of s) q ≡ Some x → P x) → OfItem P found
    on-before zero found is each = subst (λ f. OfItem P f) (sym is) tt
    on-before (suc r) found is each = on-item r found is (λ x e. each r x refl e)

-- an item at a place of the list
pub occupied-low : {K V : Type 0} (cmp : K → K → Ordering) (laws : IsTotalOrder cmp) (s : TreeState K V) (tree : IsBTree cmp s)
    (a : Address) (place : ℕ) → IsPlaceIn s a place → IsOccupiedIn s a → place < length (pairs_of s)
occupied-low {K} {V} cmp laws s tree a place at o = by (item_of s a) refl (occupied-item s a o)
  where
    here : item_of s a ≡ slice_get (pairs_of s) place
    here = (item-here cmp laws s tree a place o at).here.item

    by : (x : Option (K × V)) → item_of s a ≡ x → IsSome x → place < length (pairs_of s)
    by None e is = absurd (cc)
    by (Some x) e is = slice_get_within (pairs_of s) place x (sym here ∙ e)

module _ {K V : Type 0} (cmp : K → K → Ordering) (k : K) (s : TreeState K V) (a : Address) where
  abbrev pub Greater : K × V → Type 0
  Greater x = cmp x.0 k ≡ Less

  abbrev pub Smaller : K × V → Type 0
  Smaller x = cmp k x.0 ≡ Less

  module _ (p : Option Address) (previous : IsPrevious s a p) where
    pub fits-above : FitsAt cmp k s a → OfItem s Greater p
    fits-above f =
        let e = previous.has.only f.place f.has.at in
        on-before s Greater previous.place p previous.item (λ q x is at. f.fits.above q x (is ∙ sym e) at)

  module _ (p n : Option Address) (previous : IsPrevious s a p) where
    module _ (here : IsNormalized s a n) where
      same : previous.place ≡ here.place
      same = here.has.only previous.place previous.has.at

      pub fits-by : OfItem s Greater p → OfItem s Smaller n → FitsAt cmp k s a
      fits-by above below = record {
        place = previous.place;
        has = previous.has;
        fits = record {
          within = place-low (node_map s) (pairs_of s) s.root a.id a.offset previous.place previous.has.at;
          above = at-before s Greater previous.place p previous.item above;
          below = λ x e. at-item s Smaller here.place n here.item below x
              (subst (λ q. slice_get (pairs_of s) q ≡ Some x) same e);
        };
      }

      pub fits-below : FitsAt cmp k s a → OfItem s Smaller n
      fits-below f =
          let e = here.has.only f.place f.has.at in
          on-item s Smaller here.place n here.item
          (λ x at. f.fits.below x (subst (λ q. slice_get (pairs_of s) q ≡ Some x) (sym e) at))

    module _ (next : IsNext s a n) where
      same-next : previous.place ≡ next.place
      same-next = next.has.only previous.place previous.has.at

      pub replaces-by : IsOccupiedIn s a → previous.place < length (pairs_of s) → OfItem s Greater p → OfItem s Smaller n
          → ReplacesAt cmp k s a
      replaces-by occupied within above below = record {
        occupied = occupied;
        place = previous.place;
        has = previous.has;
        replaces = record {
          within = within;
          above = at-before s Greater previous.place p previous.item above;
          below = λ x e. at-item s Smaller (suc next.place) n (next.after occupied) below x
              (subst (λ q. slice_get (pairs_of s) (suc q) ≡ Some x) same-next e);
        };
      }

      pub replaces-below : ReplacesAt cmp k s a → OfItem s Smaller n
      replaces-below r =
          let e = next.has.only r.place r.has.at in
          on-item s Smaller (suc next.place) n (next.after r.occupied)
          (λ x at. r.replaces.below x (subst (λ q. slice_get (pairs_of s) (suc q) ≡ Some x) (sym e) at))

-- whether a key fits under a node, from the items before and after those under it
module _ {K V : Type 0} (cmp : K → K → Ordering) (k : K) (s : TreeState K V) (id size start : ℕ) (begins : HasPlace s (address_before id) start)
    (ends : HasPlace s (address_at id size) (start + length (pairs_below s id))) (p : Option Address)
    (previous : IsPrevious s (address_before id) p) where
  pub fits-in-above : FitsIn cmp k s id → OfItem s (Greater cmp k s (address_before id)) p
  fits-in-above f =
      let e = previous.has.only f.start f.begins.at in
      on-before s (Greater cmp k s (address_before id)) previous.place p previous.item (λ q x is at. f.above q x (is ∙ sym e) at)

  module _ (n : Option Address) (here : IsNormalized s (address_at id size) n) where
    pub fits-in-by : OfItem s (Greater cmp k s (address_before id)) p → OfItem s (Smaller cmp k s (address_before id)) n → FitsIn cmp k s id
    fits-in-by above below = record {
      start = start;
      begins = begins;
      above = λ q x is e.
          at-before s (Greater cmp k s (address_before id)) previous.place p previous.item above q x (is ∙ previous.has.only start begins.at) e;
      below = λ x e.
          at-item s (Smaller cmp k s (address_before id)) here.place n here.item below x
          (subst (λ q. slice_get (pairs_of s) q ≡ Some x) (here.has.only (start + length (pairs_below s id)) ends.at) e);
    }

    pub fits-in-below : FitsIn cmp k s id → OfItem s (Smaller cmp k s (address_before id)) n
    fits-in-below f =
        let e = here.has.only (start + length (pairs_below s id)) ends.at in
        let z = f.begins.only start begins.at in
        let same : here.place ≡ f.start + length (pairs_below s id) = omega arith in
        on-item s (Smaller cmp k s (address_before id)) here.place n here.item
        (λ x at. f.below x (subst (λ q. slice_get (pairs_of s) q ≡ Some x) same at))
