-- A visit of a whole tree: from `first_back_address`, `next_back_address` passes each back address once, and from
-- `last_item_address`, `previous_front_address` each front address once, backwards.
-- `HasAddresses`, which both starts promise, says of the two lists that each address is in them once, in the order of
-- the places, and that there are as many as pairs and nodes together.
use Rattle.std.proofs.Common.{◌≡◌, ◌≢◌, ◌≤◌, ◌+◌, ◌∙◌, ◌++◌, ◌∷◌, [], ℕ, zero, suc, inl, List, length, reverse, take, slice_get, unwrap_or, Option, Some, None, refl, sym, ap, arith}
use Rattle.std.proofs.lemmas.List.{reverse-append}
use Rattle.std.specs.FinMap as map
use Rattle.btree_item.specs.Address.{Address}
use Rattle.btree_laws.specs.Focus.Positions.{address_at}
use Rattle.btree_laws.specs.Place.{NOWHERE}
use Rattle.btree_laws.specs.TreeAddresses.{backs_of, first_back, fronts_of}
use Rattle.btree_laws.specs.TreeState.{TreeState, IsValidIn, node_map, pairs_of}
use Rattle.btree_laws.specs.Visits.{prior}
use Rattle.btree_laws.proofs.AddressLists.FrontAddresses.{front-within}
use Rattle.btree_find.specs.Ends.{IsFirstBack, IsLastItem}
use Rattle.btree_find.specs.Visits.{IsNextBack, IsPreviousFront}

-- the addresses that steps pass from a start, at most `most`
abbrev pub passed : (Address → Option Address) → (most : ℕ) → (start : Option Address) → List Address
passed next zero start = []
passed next (suc most) None = []
passed next (suc most) (Some a) = a ∷ passed next most (next a)

passed-none : (next : Address → Option Address) (most : ℕ) → passed next most None ≡ []
passed-none next zero = refl
passed-none next (suc most) = refl

forwards : (next : Address → Option Address) (list : List Address)
    → ((i : ℕ) (a : Address) → slice_get list i ≡ Some a → next a ≡ slice_get list (suc i))
    → (most : ℕ) → length list ≤ most → passed next most (slice_get list 0) ≡ list
forwards next [] step most low = passed-none next most
forwards next (a ∷ list) step zero low = absurd (omega arith)
forwards next (a ∷ list) step (suc most) low =
    ap (λ l. a ∷ l)
    (ap (passed next most) (step 0 a refl) ∙ forwards next list (λ i b e. step (suc i) b e) most (omega arith))

take-next : (list : List Address) (i : ℕ) (a : Address) → slice_get list i ≡ Some a → take (suc i) list ≡ take i list ++ a ∷ []
take-next [] i a e = absurd (cc)
take-next (b ∷ list) zero a e = let same : b ≡ a = cc in rw same refl
take-next (b ∷ list) (suc i) a e = ap (λ l. b ∷ l) (take-next list i a e)

take-all : (list : List Address) → take (length list) list ≡ list
take-all [] = refl
take-all (b ∷ list) = ap (λ l. b ∷ l) (take-all list)

there : (list : List Address) (i : ℕ) → suc i ≤ length list → (a : Address) × (slice_get list i ≡ Some a)
there [] i low = absurd (omega arith)
there (b ∷ list) zero low = (b, refl)
there (b ∷ list) (suc i) low = there list i (omega arith)

backwards : (previous : Address → Option Address) (list : List Address)
    → ((i : ℕ) (a : Address) → slice_get list i ≡ Some a → previous a ≡ prior list i)
    → (i most : ℕ) → i ≤ length list → i ≤ most → passed previous most (prior list i) ≡ reverse (take i list)
backwards previous list step zero most within low = passed-none previous most
backwards previous list step (suc i) zero within low = absurd (omega arith)
backwards previous list step (suc i) (suc most) within low =
    let t = there list i within in
    let later = backwards previous list step i most (omega arith) (omega arith) in
    ap (passed previous (suc most)) t.1
    ∙ (ap (λ l. t.0 ∷ l) (ap (passed previous most) (step i t.0 t.1) ∙ later)
    ∙ sym (ap reverse (take-next list i t.0 t.1) ∙ reverse-append (take i list) (t.0 ∷ [])))

module _ {K V : Type 0} (s : TreeState K V) where
  -- in a tree with pairs the first back address is the first of their list
  pub first-listed : (first : Address) → IsFirstBack s first → s.root ≢ None → Some first ≡ slice_get (backs_of s) 0
  first-listed first begins some = start (first_back s) refl
    where
      rooted : (t : Option ℕ) → s.root ≡ t → (a : Address) × (first_back s ≡ Some a)
      rooted None e = absurd (some e)
      rooted (Some root) e = rw e (_, refl)

      start : (f : Option Address) → first_back s ≡ f → Some first ≡ slice_get (backs_of s) 0
      start f e =
          let r = rooted s.root refl in
          let l : first ≡ unwrap_or (first_back s) (address_at NOWHERE 0) = begins.leftmost in
          ap Some (l ∙ ap (λ o. unwrap_or o (address_at NOWHERE 0)) r.1) ∙ sym (begins.addresses.first ∙ r.1)

  -- the address of the last item is the last of the list of front addresses
  pub last-listed : (last : Option Address) → IsLastItem s last → last ≡ prior (fronts_of s) (length (fronts_of s))
  last-listed last ends = ends.rightmost ∙ sym ends.addresses.last

  module _ (most : ℕ) (enough : length (pairs_of s) + map.len s.nodes ≤ most) where
    -- each back address once, in order
    pub visits-backs : (next : Address → Option Address) → ((a : Address) → IsValidIn s a → IsNextBack s a (next a))
        → (first : Address) → IsFirstBack s first → s.root ≢ None → passed next most (Some first) ≡ backs_of s
    visits-backs next step first begins some =
        let addresses = begins.addresses in
        let n = addresses.nodes in
        let counted = addresses.backs.counted in
        ap (passed next most) (first-listed first begins some)
        ∙ forwards next (backs_of s) (λ i a e. (step a (inl (addresses.backs.right i a e).0)).next i e) most (omega arith)

    -- each front address once, backwards
    pub visits-fronts : (previous : Address → Option Address)
        → ((a : Address) → IsValidIn s a → IsPreviousFront s a (previous a))
        → (last : Option Address) → IsLastItem s last → passed previous most last ≡ reverse (fronts_of s)
    visits-fronts previous step last ends =
        let addresses = ends.addresses in
        let n = addresses.nodes in
        let counted = addresses.fronts.counted in
        ap (passed previous most) (last-listed last ends)
        ∙ (backwards previous (fronts_of s)
        (λ i a e. (step a (inl (front-within (node_map s) (node_map s a.id) a.offset (addresses.fronts.right i a e)))).previous i e)
        (length (fronts_of s)) most (omega arith) (omega arith)
        ∙ ap reverse (take-all (fronts_of s)))
