-- The place of an editing cursor: the item there, an address for an insertion there, and the address of the next item
-- after each edit.
use Rattle.btree_map.proofs.Common.{◌≡◌, ◌∙◌, ℕ, suc, ◌+◌, ◌<◌, ◌≤◌, Bool, true, false, not, List, [], ◌∷◌, ◌++◌, Option, Some, None, IsSome, length, length-drop, take, drop, refl, sym, ap, slice_get, subst, arith, slice_get_within, IsTotalOrder, insert, remove, Ordering, KeyFits, Address, item_addresses_of, IsBTree, IsValidIn, TreeState, item_of, node_map, pairs_of, IsNext, item-occupied, occupied-item}
use Rattle.std.proofs.Common.{◌↔◌, is_none, is_some}
use Rattle.std.proofs.lemmas.List.{drop_all}
use Rattle.std.proofs.lemmas.List.Edits.{length-insert, length-remove}
use Rattle.btree_laws.specs.Place.{IsOccupied}
use Rattle.btree_laws.specs.TreeState.{IsOccupiedIn}
use Rattle.btree_laws.proofs.Options.{some-none}
use Rattle.btree_find.specs.Ends.{IsLastValid}
use Rattle.btree_find.specs.Fits.{FitsAt}
use Rattle.btree_find.specs.Navigation.{HasPlace, IsNormalized}
use Rattle.btree_find.proofs.PlaceLemmas.{has-place}
use Rattle.btree_ext.specs.InsertAt.{InsertsAt}
use Rattle.btree_ext.specs.Remove.{IsRemoved}
use Rattle.btree_map.specs.Editing.{FitsBetween}
use Rattle.btree_map.proofs.CursorLemmas.{get_none}
use Rattle.btree_map.proofs.ListedItems.{counted, listed-item, listed-occupied, listed-place, listed-valid}
use Rattle.btree_map.proofs.EditingLists.{between-fits, drop-first, fits-between, insert-drop, insert-take, remove-drop, remove-take}

none-there : (first : Option Address) → is_none first ≡ true → first ≡ None
none-there None told = refl
none-there (Some a) told = absurd (cc)

some-there : (first : Option Address) → is_none first ≡ false → (at : Address) × (first ≡ Some at)
some-there None told = absurd (cc)
some-there (Some a) told = (a, refl)

pub none-is : (told : Bool) (first : Option Address) → is_some first ≡ not told → told ≡ is_none first
none-is true first is = sym (ap not is)
none-is false first is = sym (ap not is)

none-told : (first : Option Address) → ((at : Address) → first ≡ Some at → ⊥) → is_none first ≡ true
none-told None gone = refl
none-told (Some a) gone = absurd (gone a refl)

some-told : (first : Option Address) → (first ≡ None → ⊥) → is_none first ≡ false
some-told None there = absurd (there refl)
some-told (Some a) there = refl

occupied-back : {K V : Type 0} (s : TreeState K V) (a : Address) → IsOccupiedIn s a → IsSome a.offset
occupied-back s a is = by a.offset is
  where
    by : (o : Option ℕ) → IsOccupied (node_map s) a.id o → IsSome o
    by None at = absurd at
    by (Some n) at = refl

module _ {K V : Type 0} (s : TreeState K V) where
  module _ (first : Option Address) (front : ℕ) (stands : first ≡ slice_get (item_addresses_of s) front) where
    -- without a next item nothing is left
    pub past-low : first ≡ None → length (pairs_of s) ≤ front
    past-low none = let past = get_none (item_addresses_of s) front (sym stands ∙ none) in omega (arith, counted s)

    pub past-empty : first ≡ None → drop front (pairs_of s) ≡ []
    past-empty none = drop_all front (pairs_of s) (past-low none)

    pub past-first : first ≡ None → None ≡ slice_get (drop front (pairs_of s)) 0
    past-first none = ap (λ (l : List (K × V)). slice_get l 0) (sym (past-empty none))

    at-some : (at : Address) → first ≡ Some at → 0 < length (drop front (pairs_of s))
    at-some at is =
        let within = slice_get_within (item_addresses_of s) front at (sym stands ∙ is) in
        omega (arith, within, counted s, length-drop front (pairs_of s))

    pub left-some : first ≡ None → 0 < length (drop front (pairs_of s)) → ⊥
    left-some none some = let e = ap length (past-empty none) in omega arith

    -- whether the address is there says whether something is left
    module _ (told : Bool) (is : told ≡ is_none first) where
      pub none-left : (told ≡ true) ↔ (drop front (pairs_of s) ≡ [])
      none-left = (
        λ all. past-empty (none-there first (sym is ∙ all)),
        λ empty. is ∙ none-told first (λ at here. let some = at-some at here in let gone = ap length empty in omega arith),
      )

      pub some-left : (told ≡ false) ↔ (0 < length (drop front (pairs_of s)))
      some-left = (
        λ more. let there = some-there first (sym is ∙ more) in at-some there.0 there.1,
        λ some. is ∙ some-told first (λ none. left-some none some),
      )

    module _ (at : Address) (is : first ≡ Some at) where
      pub at-listed : slice_get (item_addresses_of s) front ≡ Some at
      at-listed = sym stands ∙ is

      pub at-first : item_of s at ≡ slice_get (drop front (pairs_of s)) 0
      at-first = listed-item s at front at-listed ∙ sym (drop-first front (pairs_of s))

      pub at-within : front < length (item_addresses_of s)
      at-within = slice_get_within (item_addresses_of s) front at at-listed

      pub at-occupied : IsOccupiedIn s at
      at-occupied = listed-occupied s at front at-listed

      pub at-valid : IsValidIn s at
      at-valid = listed-valid s at front at-listed

      pub at-there : item_of s at ≡ None → ⊥
      at-there = some-none (item_of s at) (occupied-item s at at-occupied)

      pub at-back : IsSome at.offset
      at-back = occupied-back s at at-occupied

      pub at-place : {cmp : K → K → Ordering} → IsTotalOrder cmp → IsBTree cmp s → HasPlace s at front
      at-place {cmp} laws tree = has-place cmp laws s tree at front (listed-place s at front at-listed)

    -- past the last item, the last back address is at the place
    pub end-place : first ≡ None → front ≤ length (item_addresses_of s) → (a : Address) → IsLastValid s a → HasPlace s a front
    end-place none low a last =
        let past = past-low none in
        let end : length (pairs_of s) ≡ front = omega (arith, counted s) in
        subst (HasPlace s a) end last.at.has

  -- ---- whether a key fits at the place of a back address
  module _ (k : K) (gap : Address) (front : ℕ) (has : HasPlace s gap front) (low : front ≤ length (item_addresses_of s)) where
    pub fits-at : {cmp : K → K → Ordering} → FitsBetween cmp k (take front (pairs_of s)) (drop front (pairs_of s)) → FitsAt cmp k s gap
    fits-at {cmp} between = record {
      place = front;
      has = has;
      fits = between-fits cmp k front (pairs_of s) (omega (arith, counted s, low)) between;
    }

    pub at-fits : {cmp : K → K → Ordering} → FitsAt cmp k s gap → FitsBetween cmp k (take front (pairs_of s)) (drop front (pairs_of s))
    at-fits {cmp} f =
        let same : f.place ≡ front = has.only f.place f.has.at in
        fits-between cmp k front (pairs_of s) (subst (λ n. KeyFits cmp k n (pairs_of s)) same f.fits)

module _ {K V : Type 0} {cmp : K → K → Ordering} (old new : TreeState K V) (front : ℕ) where
  -- ---- after an insertion at the place
  module _ (gap at : Address) (x : K × V) (i : InsertsAt old new gap cmp at x) (has : HasPlace old gap front) (low : front ≤ length (item_addresses_of old)) where
    insert-pairs : pairs_of new ≡ insert (pairs_of old) front x
    insert-pairs = i.pairs ∙ ap (λ n. insert (pairs_of old) n x) (has.only i.place i.has.at)

    low-pairs : front ≤ length (pairs_of old)
    low-pairs = omega (arith, counted old, low)

    pub insert-passed : take (front + 1) (pairs_of new) ≡ take front (pairs_of old) ++ x ∷ []
    insert-passed = ap (take (front + 1)) insert-pairs ∙ insert-take x front (pairs_of old) low-pairs

    pub insert-left : drop (front + 1) (pairs_of new) ≡ drop front (pairs_of old)
    insert-left = ap (drop (front + 1)) insert-pairs ∙ insert-drop x front (pairs_of old) low-pairs

    pub insert-next : (found : Option Address) → IsNext new at found → found ≡ slice_get (item_addresses_of new) (front + 1)
    insert-next found n =
        let occupied = item-occupied new at (ap is_some i.inserted.item) in
        let there : n.place ≡ i.place = i.there.only n.place n.has.at in
        let here : i.place ≡ front = has.only i.place i.has.at in
        let one : suc n.place ≡ front + 1 = omega arith in
        (n.after occupied).listed ∙ ap (slice_get (item_addresses_of new)) one

    pub insert-within : front + 1 ≤ length (item_addresses_of new)
    insert-within =
        let more = ap length insert-pairs ∙ length-insert (pairs_of old) front x low-pairs in
        omega (arith, counted new, low-pairs, more)

  -- ---- after a removal there
  module _ (at after : Address) (x : K × V) (r : IsRemoved old new cmp at x after) (listed : slice_get (item_addresses_of old) front ≡ Some at) where
    here : r.place ≡ front
    here = sym (r.has.only front (listed-place old at front listed))

    remove-pairs : pairs_of new ≡ remove (pairs_of old) front
    remove-pairs = r.pairs ∙ ap (remove (pairs_of old)) here

    there : slice_get (pairs_of old) front ≡ Some x
    there = subst (λ n. slice_get (pairs_of old) n ≡ Some x) here r.listed

    pub remove-passed : take front (pairs_of new) ≡ take front (pairs_of old)
    remove-passed = ap (take front) remove-pairs ∙ remove-take x front (pairs_of old) there

    pub remove-left : drop front (pairs_of old) ≡ x ∷ drop front (pairs_of new)
    remove-left = remove-drop x front (pairs_of old) there ∙ ap (λ l. x ∷ drop front l) (sym remove-pairs)

    pub remove-next : (found : Option Address) → IsNormalized new after found → found ≡ slice_get (item_addresses_of new) front
    remove-next found n =
        let same : r.place ≡ n.place = n.has.only r.place r.there.at in
        n.item.listed ∙ ap (slice_get (item_addresses_of new)) (sym same ∙ here)

    pub remove-within : front ≤ length (item_addresses_of new)
    remove-within =
        let some = slice_get_within (pairs_of old) front x there in
        let fewer = ap length remove-pairs in
        omega (arith, counted new, some, fewer, length-remove (pairs_of old) front some)
