-- Addresses that stay while the range at another place is replaced, or an insertion is refused.
use Rattle.btree_range_map.proofs.Common.{◌≡◌, ◌∙◌, ℕ, Some, refl, sym, ap, subst, same_Some, item_of, nat_cmp, IsSome, Address, Cause, NodeStore, NodeCount, RangeCause, Store, Count, Clone, arith, length, pairs_of, remove, suc, TreeState, HasPlace, IsItemAddress, IsExchanged, IsValueExchanged, SetsEnd, Span}
use Rattle.std.proofs.Common.{◌≢◌}
use Rattle.std.proofs.lemmas.Cmp.{nat_cmp_total}
use Rattle.btree_node.specs.declared.node.Node.{Node}
use Rattle.btree_store.specs.Content.{Content}
use Rattle.btree_find.proofs.FitsLemmas.{item-occupied, occupied-item}
use Rattle.btree_find.proofs.PlaceLemmas.{has-place, item-here}
use Rattle.btree_raw.specs.Insertion.{IsRefused}
use Rattle.btree_ext.specs.Exchange.{IsKeyExchanged}
use Rattle.btree_ext.specs.Insert.{CountsRefusal}
use Rattle.btree_ext.specs.InsertAt.{InsertsAt, IsRefusedAt}
use Rattle.btree_ext.specs.Remove.{IsRemoved}
use Rattle.btree_laws.specs.TreeState.{refused_once}
use Rattle.btree_range_map.specs.Refusals.{by_node}
use Rattle.btree_range_map.specs.State.{ranges_of}
use Rattle.btree_range_map.specs.State as state
use Rattle.btree_range_map.specs.Steps.{IsRefusedIn}

-- ---- the range at an address was replaced
module _ {V : Type 0} (s new : TreeState ℕ (Span V)) (a : Address) (x : ℕ × Span V) (is : IsExchanged s new a nat_cmp x) where
  pub kept-place : (b : Address) (place : ℕ) → HasPlace s b place → HasPlace new b place
  kept-place b place has = has-place nat_cmp nat_cmp_total new is.tree b place (is.keeps.places b place has.at)

  -- the address itself has an item at the same place
  pub kept-here : (place : ℕ) → HasPlace s a place → IsItemAddress new place a
  kept-here place has =
      let occupied = item-occupied new a (subst (λ o. IsSome o) (sym is.item) refl) in
      (item-here nat_cmp nat_cmp_total new is.tree a place occupied (is.keeps.places a place has.at)).here

  -- so has each address of another place
  pub kept-item : (b : Address) (place other : ℕ) → HasPlace s a place → IsItemAddress s other b → (other ≡ place → ⊥) → IsItemAddress new other b
  kept-item b place other has here differs =
      let apart : b ≢ a = λ same. differs (has.only other (subst (λ c. HasPlace s c other) same here.has).at) in
      let occupied = item-occupied new b (subst (λ o. IsSome o) (sym (is.keeps.others b apart)) (occupied-item s b here.occupied)) in
      (item-here nat_cmp nat_cmp_total new is.tree b other occupied (is.keeps.places b other here.has.at)).here

module _ {V : Type 0} where
  -- ---- an insertion was refused
  pub refused-keeps : (s new : TreeState ℕ (Span V)) (gap : Address) (MayRefuse : Content (Node ℕ (Span V)) → Type 0) (cause : Cause) → IsRefusedAt s new gap MayRefuse cause → (place : ℕ) (b : Address)
      → IsItemAddress s place b → IsItemAddress new place b
  refused-keeps s new gap MayRefuse cause is place b here = by cause is.refused where
    by : (cause : Cause) → IsRefused MayRefuse is.leaf.id s new cause → IsItemAddress new place b
    by NodeStore refused = subst (λ (t : TreeState ℕ (Span V)). IsItemAddress t place b) (sym refused.0) (record { valid = here.valid; occupied = here.occupied; has = record { at = here.has.at; only = here.has.only }; item = here.item })
    by NodeCount refused = subst (λ (t : TreeState ℕ (Span V)). IsItemAddress t place b) (sym refused.0) here

  -- every range stays, and the refusal is counted
  pub refused-one : (s new : TreeState ℕ (Span V)) (gap : Address) (MayRefuse : Content (Node ℕ (Span V)) → Type 0) (cause : Cause) → IsRefusedAt s new gap MayRefuse cause → IsRefusedIn s new 1 (by_node cause)
  refused-one s new gap MayRefuse cause is = record { ranges = is.leaves.pairs; counts = by cause is.leaves.counts } where
    by : (cause : Cause) → CountsRefusal s new cause → state.CountsRefusal (ranges_of s) (ranges_of new) 1 (by_node cause)
    by NodeStore counts = counts
    by NodeCount counts = let reached = counts.1 in (counts.0, omega (arith, reached))

  -- the same, of a call that adds more
  pub refused-more : (s new : TreeState ℕ (Span V)) (cause : RangeCause) → IsRefusedIn s new 1 cause → IsRefusedIn s new 2 cause
  refused-more s new cause is = record { ranges = is.ranges; counts = by cause is.counts } where
    by : (cause : RangeCause) → state.CountsRefusal (ranges_of s) (ranges_of new) 1 cause → state.CountsRefusal (ranges_of s) (ranges_of new) 2 cause
    by Store counts = counts
    by Count counts = let reached = counts.1 in (counts.0, omega (arith, reached))
    by Clone counts = counts

-- ---- only the start of a range was replaced
pub key-exchanged : {V : Type 0} (s new : TreeState ℕ (Span V)) (a : Address) (was is first : ℕ) (span : Span V) → item_of s a ≡ Some (first, span)
    → IsKeyExchanged s new a nat_cmp was is → IsExchanged s new a nat_cmp (is, span)
key-exchanged {V} s new a was is first span item e =
    let same : e.value ≡ span = ap (λ (z : ℕ × Span V). z.1) (same_Some _ _ (sym e.had ∙ item)) in
    subst (λ (v : Span V). IsExchanged s new a nat_cmp (is, v)) same e.exchanged

-- ---- only the end of a range was replaced
pub sets-end : {V : Type 0} (s new : TreeState ℕ (Span V)) (a : Address) (end : ℕ) (x : ℕ × Span V) → item_of s a ≡ Some x → SetsEnd s new a end
    → IsValueExchanged s new a nat_cmp x.1 (record { end = end; value = x.1.value })
sets-end {V} s new a end x item e =
    let same : e.span ≡ x.1 = ap (λ (z : ℕ × Span V). z.1) (same_Some _ _ (sym e.exchanged.had ∙ item)) in
    subst (λ (v : Span V). IsValueExchanged s new a nat_cmp v (record { end = end; value = v.value })) same e.exchanged

-- ---- a range was added, another one was refused, and the first was removed again
module _ {V : Type 0} (s mid late new : TreeState ℕ (Span V)) (at right after : Address) (r x : ℕ × Span V) (puts : InsertsAt s mid at nat_cmp right r)
    (longer : length (pairs_of mid) ≡ suc (length (pairs_of s))) (MayRefuse : Content (Node ℕ (Span V)) → Type 0) (cause : Cause)
    (refused : IsRefusedAt mid late right MayRefuse cause) (gone : IsRemoved late new nat_cmp right x after) where
  right-item : IsItemAddress mid puts.place right
  right-item =
      let occupied = item-occupied mid right (subst (λ o. IsSome o) (sym puts.inserted.item) refl) in
      (item-here nat_cmp nat_cmp_total mid puts.inserted.tree right puts.place occupied puts.there.at).here

  same-place : gone.place ≡ puts.place
  same-place = (refused-keeps mid late right MayRefuse cause refused puts.place right right-item).has.only gone.place gone.has.at

  pub removed-back : pairs_of new ≡ pairs_of s
  removed-back = gone.pairs ∙ (λ i. remove (refused.leaves.pairs i) (same-place i)) ∙ puts.restores

  pub refused-after : IsRefusedIn s new 2 (by_node cause)
  refused-after = record { ranges = removed-back; counts = by cause refused.leaves.counts } where
    by : (cause : Cause) → CountsRefusal mid late cause → state.CountsRefusal (ranges_of s) (ranges_of new) 2 (by_node cause)
    by NodeStore counts =
        let limit = ap (λ k. k.limit) puts.inserted.uncounted in
        let below = counts.1 in
        (gone.uncounted ∙ counts.0 ∙ ap (λ k. refused_once k) puts.inserted.uncounted, omega (arith, below, longer, limit))
    by NodeCount counts =
        let limit = ap (λ k. k.limit) puts.inserted.uncounted in
        let reached = counts.1 in
        (gone.uncounted ∙ counts.0 ∙ puts.inserted.uncounted, omega (arith, reached, longer, limit))
