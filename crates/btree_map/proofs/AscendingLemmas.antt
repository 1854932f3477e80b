-- Insertions at the end of a map.
use Rattle.btree_map.proofs.Common.{◌≡◌, ◌≤◌, ◌∙◌, Option, true, Bool, ◌-◌, List, Some, None, IsSome, refl, sym, ap, subst, arith, length, slice_get, same_Some, slice_get_within, IsTotalOrder, Ordering, Equal, Greater, Less, Ascends, KeyFits, before, found, inserted, Address, TreeState, item_of, pairs_of, IsLastPair}
use Rattle.std.proofs.Common.{◌↔◌, ◌==◌}
use Rattle.std.proofs.lemmas.List.Edits.{length-insert}
use Rattle.std.specs.Ordering.{ordering_index}
use Rattle.btree_item.proofs.PairEdits.{before-from_KeyFits, found-from_KeyFits, slice_get-insert}
use Rattle.btree_laws.proofs.Options.{else-none}
use Rattle.btree_ext.specs.InsertAbsent.{InsertsAbsent}
use Rattle.btree_map.specs.Ascending.{GoesLast, IsAboveLast}
use Rattle.btree_map.proofs.EntryLemmas.{item-valid}

module _ {K V : Type 0} (cmp : K → K → Ordering) (laws : IsTotalOrder cmp) (k : K) (s : TreeState K V) (up : Ascends cmp (pairs_of s))
    (above : IsAboveLast cmp k (pairs_of s)) where
  abbrev xs : List (K × V)
  xs = pairs_of s

  fits-end : KeyFits cmp k (length xs) xs
  fits-end = record {
    within = omega arith;
    above = λ q x is at. let same : q ≡ length xs - 1 = omega arith in above x (subst (λ n. slice_get xs n ≡ Some x) same at);
    below = λ x at. let low = slice_get_within xs (length xs) x at in absurd (omega arith);
  }

  -- the key is not there, and its gap is the end
  pub above-absent : found cmp k xs ≡ None
  above-absent = found-from_KeyFits cmp laws k (length xs) xs up fits-end

  pub above-end : before cmp k xs ≡ length xs
  above-end = before-from_KeyFits cmp laws k (length xs) xs up fits-end

  -- a pair that was inserted there is the last one
  module _ (new : TreeState K V) (w : V) (b : Address) (is : InsertsAbsent cmp k s new w b) where
    pub end-inserted : pairs_of new ≡ inserted cmp k w xs
    end-inserted = is.pairs ∙ sym (else-none (found cmp k xs) _ _ above-absent)

    pub end-last : IsLastPair new b
    end-last =
        let p = before cmp k xs in
        let end = above-end in
        let within : p ≤ length xs = omega arith in
        let longer = length-insert xs p (k, w) within in
        let size = ap length is.pairs in
        record {
          place = p;
          last = omega arith;
          here = record {
            valid = item-valid new b (subst IsSome (sym is.item) refl);
            occupied = is.occupied;
            has = is.there;
            item = is.item ∙ sym (ap (λ l. slice_get l p) is.pairs ∙ slice_get-insert xs p (k, w) within);
          };
        }

-- whether an ordering is `Less`, by its number
less-tells : (o : Ordering) → (ordering_index o == 0) ≡ true ↔ o ≡ Less
less-tells Less = (λ t. refl, λ e. refl)
less-tells Equal = (λ t. absurd (cc), λ e. absurd (cc))
less-tells Greater = (λ t. absurd (cc), λ e. absurd (cc))

-- the key of the last pair tells whether a key goes behind it
module _ {K V : Type 0} (cmp : K → K → Ordering) (k : K) (s : TreeState K V) (a : Address) (last : IsLastPair s a) (x : K × V) (read : item_of s a ≡ Some x) where
  last-listed : slice_get (pairs_of s) (length (pairs_of s) - 1) ≡ Some x
  last-listed =
      let place : length (pairs_of s) - 1 ≡ last.place = omega (arith, last.last) in
      ap (slice_get (pairs_of s)) place ∙ sym last.here.item ∙ read

  pub goes-last : (given : Option Address) → given ≡ Some a → (is : Ordering) → is ≡ cmp x.0 k → (tells : Bool) → tells ≡ (ordering_index is == 0)
      → (tells ≡ true) ↔ GoesLast cmp k given s
  goes-last given some is compared tells told = (
    λ t.
        let less : cmp x.0 k ≡ Less = sym compared ∙ (less-tells is).0 (sym told ∙ t) in (
          λ y at. subst (λ (z : K × V). cmp z.0 k ≡ Less) (same_Some x y (sym last-listed ∙ at)) less,
          λ none. absurd (cc),
        ),
    λ goes. told ∙ (less-tells is).1 (compared ∙ goes.0 x last-listed),
  )
