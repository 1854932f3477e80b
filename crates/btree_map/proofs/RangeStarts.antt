-- Where a cursor starts that has bounds: the addresses of its ends, and the pairs from and up to them.
use Rattle.btree_map.proofs.Common.{◌≡◌, ◌∙◌, suc, ◌-◌, List, Option, Some, drop, length, nat_lt, not, slice_get, sym, take, ap, arith, entries_between, is_from_start, is_past_end, IsTotalOrder, is_le, Ordering, Bound, Included, Excluded, Unbounded, Address, Rises, rises, item_addresses_of, TreeState, IsBTree, item_of, node_map, pairs_of, prior, IsNext, from_place, index_after, index_of, to_place}
use Rattle.std.proofs.lemmas.List.Sums.{count_by-le-length}
use Rattle.btree_item.proofs.PairLemmas.{before-from_Err, before-from_Ok, found-from_Err}
use Rattle.btree_laws.proofs.Places.OnePlace.{one_place-well}
use Rattle.btree_find.specs.Answers.{IsFoundAt, IsGapAt}
use Rattle.btree_find.specs.Ends.{IsFirstItem, IsLastItem}
use Rattle.btree_find.specs.Navigation.{IsNormalized, IsPrevious}
use Rattle.btree_walk.specs.Bounds.{pairs_from}
use Rattle.btree_map.specs.Spans.{pairs_before}
use Rattle.btree_map.proofs.CursorLemmas.{before-listed}
use Rattle.btree_map.proofs.ListedItems.{counted, listed-item, listed-place}
use Rattle.btree_map.proofs.IndexLemmas.{IsOnce, after-is, index-is}
use Rattle.btree_map.proofs.PlaceLemmas.{below-end, below-place, between-places, count-all, count-none, drop-from, order-of, past-found, past-missing, take-from, up_to-found, up_to-missing}

module _ {K V : Type 0} (cmp : K → K → Ordering) (laws : IsTotalOrder cmp) (s : TreeState K V) (tree : IsBTree cmp s) where
  abbrev list : List Address
  list = item_addresses_of s

  abbrev pairs : List (K × V)
  pairs = pairs_of s

  up : Rises cmp pairs
  up = rises cmp pairs tree.ascends

  pub once : IsOnce list
  once i j a p q =
      one_place-well cmp laws (node_map s) pairs s.len s.root tree a.id a.offset i j (listed-place s a i p) (listed-place s a j q)

  -- without a bound
  pub whole-first : (found : Option Address) → IsFirstItem s found → found ≡ slice_get list (from_place cmp Unbounded pairs)
  whole-first found x = x.item.listed ∙ ap (slice_get list) (sym (count-none pairs))

  pub whole-last : (found : Option Address) → IsLastItem s found → found ≡ prior list (to_place cmp Unbounded pairs)
  whole-last found x = before-listed s (length pairs) found x.item ∙ ap (prior list) (sym (count-all pairs))

  -- at a key that is there, or at the gap where it would be
  module _ (k : K) where
    pub found-first : (a : Address) → IsFoundAt cmp k s a → Some a ≡ slice_get list (from_place cmp (Included k) pairs)
    found-first a x = sym x.listed ∙ ap (slice_get list) (sym (below-place cmp laws k pairs ∙ before-from_Ok cmp k pairs x.replaces.place x.is))

    pub gap-first : (gap : Address) (found : Option Address) → IsGapAt cmp k s gap → IsNormalized s gap found
        → found ≡ slice_get list (from_place cmp (Included k) pairs)
    gap-first gap found x n =
        n.item.listed
        ∙ ap (slice_get list) (sym (n.has.only x.fits.place x.fits.has.at) ∙ sym (below-place cmp laws k pairs ∙ before-from_Err cmp k pairs x.fits.place x.is))

    pub found-after : (a : Address) (found : Option Address) → IsFoundAt cmp k s a → IsNext s a found → found ≡ slice_get list (from_place cmp (Excluded k) pairs)
    found-after a found x n =
        (n.after x.here.occupied).listed
        ∙ ap (λ m. slice_get list (suc m)) (sym (n.has.only x.replaces.place x.here.has.at))
        ∙ ap (slice_get list) (sym (past-found cmp laws k pairs x.replaces.place up x.is))

    pub gap-after : (gap : Address) (found : Option Address) → IsGapAt cmp k s gap → IsNormalized s gap found
        → found ≡ slice_get list (from_place cmp (Excluded k) pairs)
    gap-after gap found x n =
        let absent = found-from_Err cmp k pairs x.fits.place x.is in
        n.item.listed
        ∙ ap (slice_get list)
        (sym (n.has.only x.fits.place x.fits.has.at) ∙ sym (past-missing cmp laws k pairs up absent ∙ before-from_Err cmp k pairs x.fits.place x.is))

    pub found-last : (a : Address) → IsFoundAt cmp k s a → Some a ≡ prior list (to_place cmp (Included k) pairs)
    found-last a x = sym x.listed ∙ ap (prior list) (sym (up_to-found cmp laws k pairs x.replaces.place up x.is))

    pub gap-last : (gap : Address) (found : Option Address) → IsGapAt cmp k s gap → IsPrevious s gap found
        → found ≡ prior list (to_place cmp (Included k) pairs)
    gap-last gap found x p =
        let absent = found-from_Err cmp k pairs x.fits.place x.is in
        before-listed s p.place found p.item
        ∙ ap (prior list)
        (sym (p.has.only x.fits.place x.fits.has.at) ∙ sym (up_to-missing cmp laws k pairs up absent ∙ before-from_Err cmp k pairs x.fits.place x.is))

    pub found-before : (a : Address) (found : Option Address) → IsFoundAt cmp k s a → IsPrevious s a found → found ≡ prior list (to_place cmp (Excluded k) pairs)
    found-before a found x p =
        before-listed s p.place found p.item
        ∙ ap (prior list) (sym (p.has.only x.replaces.place x.here.has.at) ∙ sym (below-end cmp laws k pairs ∙ before-from_Ok cmp k pairs x.replaces.place x.is))

    pub gap-before : (gap : Address) (found : Option Address) → IsGapAt cmp k s gap → IsPrevious s gap found
        → found ≡ prior list (to_place cmp (Excluded k) pairs)
    gap-before gap found x p =
        before-listed s p.place found p.item
        ∙ ap (prior list) (sym (p.has.only x.fits.place x.fits.has.at) ∙ sym (below-end cmp laws k pairs ∙ before-from_Err cmp k pairs x.fits.place x.is))

  -- the first end stands at its place, before which are the pairs before the bound
  module _ (lo : Bound K) (first : Option Address) (first_is : first ≡ slice_get list (from_place cmp lo pairs)) where
    pub from-index : index_of list first ≡ from_place cmp lo pairs
    from-index =
        let long = counted s in
        let low = count_by-le-length (λ (x : K × V). not (is_from_start cmp lo x.0)) pairs in
        index-is list once (from_place cmp lo pairs) first first_is (omega arith)

    pub before-first : take (index_of list first) pairs ≡ pairs_before cmp lo s
    before-first = ap (λ n. take n pairs) from-index ∙ take-from laws pairs up lo

    pub from-first : drop (index_of list first) pairs ≡ pairs_from cmp lo s
    from-first = ap (λ n. drop n pairs) from-index ∙ drop-from laws pairs up lo

  -- the pairs from the first end up to the last one are those between the bounds
  module _ (lo hi : Bound K) (first last : Option Address) (first_is : first ≡ slice_get list (from_place cmp lo pairs))
      (last_is : last ≡ prior list (to_place cmp hi pairs)) where
    pub between-ends : take (index_after list last - index_of list first) (drop (index_of list first) pairs) ≡ entries_between cmp lo hi pairs
    between-ends =
        let long = counted s in
        let high = count_by-le-length (λ (x : K × V). not (is_past_end cmp hi x.0)) pairs in
        let front : index_of list first ≡ from_place cmp lo pairs = from-index lo first first_is in
        let back : index_after list last ≡ to_place cmp hi pairs = after-is list once (to_place cmp hi pairs) last last_is (omega arith) in
        (λ i. take (back i - front i) (drop (front i) pairs)) ∙ sym (between-places laws pairs up lo hi)

  -- two items are in the order of their keys
  pub ends-ordered : (a b : Address) (x y : K × V) → slice_get list (index_of list (Some a)) ≡ Some a → slice_get list (index_of list (Some b)) ≡ Some b
      → item_of s a ≡ Some x → item_of s b ≡ Some y → is_le (cmp x.0 y.0) ≡ nat_lt (index_of list (Some a)) (index_after list (Some b))
  ends-ordered a b x y at_a at_b is_a is_b =
      order-of cmp laws pairs (index_of list (Some a)) (index_of list (Some b)) x y up
      (sym (listed-item s a (index_of list (Some a)) at_a) ∙ is_a)
      (sym (listed-item s b (index_of list (Some b)) at_b) ∙ is_b)
