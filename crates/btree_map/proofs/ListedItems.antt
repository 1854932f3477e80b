-- The items at the addresses of a tree's items are its pairs, in order. It holds for any tree, well formed or not, so a
-- cursor need not know more of its map to count its pairs or to read one.
use Rattle.btree_map.proofs.Common.{◌≡◌, ◌∙◌, ℕ, zero, suc, ◌+◌, List, [], ◌∷◌, ◌++◌, length, Option, Some, None, refl, sym, ap, subst, option_map, slice_get, arith, inl, same_Some, Address, item_addresses_of, TreeState, IsValidIn, item_of, node_map, pairs_of, item-occupied}
use Rattle.btree_map.proofs.EntryLemmas.{item-valid}
use Rattle.std.proofs.Common.{is_some, map, option_and_then}
use Rattle.std.proofs.lemmas.List.{length-map, map-append}
use Rattle.std.proofs.lemmas.Option.{slice_get-map}
use Rattle.std.specs.FinMap as finite
use Rattle.std.specs.List.{flat_map}
use Rattle.btree_view.specs.View.{NodeMap, View, internal, item_in, leaf}
use Rattle.btree_laws.specs.Addresses.{item_addresses, item_addresses_in, item_addresses_under, slots}
use Rattle.btree_laws.specs.Focus.Positions.{address_at}
use Rattle.btree_laws.specs.Place.{IsPlace, IsPlaceOf, item_at}
use Rattle.btree_laws.specs.Represents.{represented, represented_in}
use Rattle.btree_laws.specs.TreeState.{IsOccupiedIn, IsPlaceIn, pairs_under}

some-each : {X : Type 0} (x : Option X) (o : Option X) → Some x ≡ option_map Some o → (y : X) × (o ≡ Some y) × (x ≡ Some y)
some-each x None is = absurd (cc)
some-each x (Some y) is = (y, refl, same_Some x (Some y) is)

from-start : (n : ℕ) → 0 + n ≡ n
from-start n = omega arith

module _ {A : Type 0} (node_at : NodeMap A) where
  abbrev items_at : List Address → List (Option A)
  items_at list = map (item_at node_at) list

  abbrev each : List A → List (Option A)
  each xs = map {B = Option A} Some xs

  -- the items of a node from an offset on, each followed by those below it
  in-slots : {X : Type 0} (item : X → A) (below : X → List Address) (inside : X → List A) → ((x : X) → items_at (below x) ≡ each (inside x))
      → (id offset : ℕ) (xs : List X) → ((i : ℕ) → item_in (node_at id) (offset + i) ≡ option_map item (slice_get xs i))
      → items_at (slots below id offset xs) ≡ each (flat_map (λ x. item x ∷ inside x) xs)
  in-slots item below inside same id offset [] at = refl
  in-slots item below inside same id offset (x ∷ xs) at =
      let first : offset ≡ offset + 0 = omega arith in
      let here : item_at node_at (address_at id offset) ≡ Some (item x) = ap (item_in (node_at id)) first ∙ at 0 in
      let next : (i : ℕ) → suc offset + i ≡ offset + suc i = λ i. omega arith in
      let more = in-slots item below inside same id (suc offset) xs (λ i. ap (item_in (node_at id)) (next i) ∙ at (suc i)) in
      let rest =
      map-append (item_at node_at) (below x) (slots below id (suc offset) xs)
      ∙ (λ i. same x i ++ more i)
      ∙ sym (map-append Some (inside x) (flat_map (λ y. item y ∷ inside y) xs)) in
      λ i. here i ∷ rest i

  -- a leaf has no items below its own
  alone : (xs : List A) → flat_map (λ x. x ∷ []) xs ≡ xs
  alone [] = refl
  alone (x ∷ xs) = ap (λ l. x ∷ l) (alone xs)

  itself : (o : Option A) → o ≡ option_map (λ x. x) o
  itself None = refl
  itself (Some x) = refl

  in-node : (below : ℕ → List Address) (inside : ℕ → List A) → ((n : ℕ) → items_at (below n) ≡ each (inside n)) → (id : ℕ) (o : Option (View A))
      → node_at id ≡ o → items_at (item_addresses_in below id o) ≡ each (represented_in inside o)
  in-node below inside same id None is = refl
  in-node below inside same id (Some (leaf parent items)) is =
      in-slots (λ x. x) (λ x. []) (λ x. []) (λ x. refl) id 0 items
      (λ i. ap (item_in (node_at id)) (from-start i) ∙ ap (λ o. item_in o i) is ∙ itself (slice_get items i))
      ∙ ap each (alone items)
  in-node below inside same id (Some (internal parent first branches)) is =
      map-append (item_at node_at) (below first) (slots (λ (b : A × ℕ). below b.1) id 0 branches)
      ∙ (λ i. same first i ++ in-slots (λ (b : A × ℕ). b.0) (λ b. below b.1) (λ b. inside b.1) (λ b. same b.1) id 0 branches
      (λ n. ap (item_in (node_at id)) (from-start n) ∙ ap (λ o. item_in o n) is ∙ slice_get-map (λ (b : A × ℕ). b.0) branches n) i)
      ∙ sym (map-append Some (inside first) (flat_map (λ (b : A × ℕ). b.0 ∷ inside b.1) branches))

  under-node : (levels id : ℕ) → items_at (item_addresses node_at levels id) ≡ each (represented node_at levels id)
  under-node zero id = refl
  under-node (suc levels) id = in-node (item_addresses node_at levels) (represented node_at levels) (under-node levels) id (node_at id) refl

module _ {K V : Type 0} (s : TreeState K V) where
  under-root : (root : Option ℕ) → map (item_of s) (item_addresses_under (node_map s) (finite.len s.nodes) root)
      ≡ map {B = Option (K × V)} Some (pairs_under (node_map s) root (finite.len s.nodes))
  under-root None = refl
  under-root (Some root) = under-node (node_map s) (finite.len s.nodes) root

  -- there are as many addresses as pairs
  pub counted : length (item_addresses_of s) ≡ length (pairs_of s)
  counted =
      sym (length-map (item_addresses_of s) (item_of s))
      ∙ ap length (under-root s.root)
      ∙ length-map (pairs_of s) Some

  module _ (a : Address) (place : ℕ) (listed : slice_get (item_addresses_of s) place ≡ Some a) where
    here : (x : K × V) × (slice_get (pairs_of s) place ≡ Some x) × (item_of s a ≡ Some x)
    here = some-each (item_of s a) (slice_get (pairs_of s) place)
        (sym (ap (option_map (item_of s)) listed)
        ∙ sym (slice_get-map (item_of s) (item_addresses_of s) place)
        ∙ ap (λ l. slice_get l place) (under-root s.root)
        ∙ slice_get-map Some (pairs_of s) place)

    pub listed-item : item_of s a ≡ slice_get (pairs_of s) place
    listed-item = here.2 ∙ sym here.1

    pub listed-occupied : IsOccupiedIn s a
    listed-occupied = item-occupied s a (ap is_some here.2)

    pub listed-valid : IsValidIn s a
    listed-valid = item-valid s a (ap is_some here.2)

    pub listed-place : IsPlaceIn s a place
    listed-place = by s.root a.offset refl refl
      where
        by : (root offset : Option ℕ) → s.root ≡ root → a.offset ≡ offset → IsPlace (node_map s) root (pairs_of s) a.id offset place
        by None offset is at =
            let none : item_addresses_of s ≡ [] = ap (item_addresses_under (node_map s) (finite.len s.nodes)) is in
            let gone : slice_get {X = Address} [] place ≡ Some a = ap (λ l. slice_get l place) (sym none) ∙ listed in
            absurd (cc)
        by (Some root) None is at =
            let none : Some here.0 ≡ None = sym here.2 ∙ ap (option_and_then (item_in (node_map s a.id))) at in
            absurd (cc)
        by (Some root) (Some n) is at =
            let item : item_in (node_map s a.id) n ≡ Some here.0 = ap (option_and_then (item_in (node_map s a.id))) (sym at) ∙ here.2 in
            inl (subst (λ o. IsPlaceOf (node_map s) (pairs_of s) o place) (sym item) here.1)
