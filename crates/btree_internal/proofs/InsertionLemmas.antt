-- A value written at the place of its key is an insertion by key.
use Rattle.btree_internal.proofs.Common.{◌≡◌, ℕ, Option, Some, None, Ok, Ordering, refl, sym, ◌∙◌, ap, slice_get, option_map, place_of, Internal, internal_view, internal_with_value_at, items_of}
use Rattle.std.specs.Cmp.{IsTotalOrder}
use Rattle.btree_item.specs.Pairs.{Ascends, found}
use Rattle.btree_internal.specs.InternalLends.{internal_with_value}
use Rattle.btree_internal.proofs.BranchLemmas.{with_value-from_at}
use Rattle.btree_view.specs.Insertion.{with_inserted}

module _ {K V : Type 0} (cmp : K → K → Ordering) (total : IsTotalOrder cmp) (node : Internal K V) (k : K) (i : ℕ) where
  found-inserted : (x : K × V) (w : V) → found cmp k (items_of (internal_view node)) ≡ Some x → internal_view (internal_with_value cmp k node w) ≡ with_inserted cmp k w (internal_view node)
  unfolding internal_with_value
  found-inserted x w finds = rw finds refl

  written-inserted : (o : Option (K × V)) (v w : V) → Ascends cmp (items_of (internal_view node)) → place_of cmp k (items_of (internal_view node)) ≡ Ok i → slice_get (items_of (internal_view node)) i ≡ found cmp k (items_of (internal_view node)) → Some v ≡ option_map (λ x. x.1) o → slice_get (items_of (internal_view node)) i ≡ o → internal_view (internal_with_value_at i node w) ≡ with_inserted cmp k w (internal_view node)
  written-inserted None v w up place here value at = absurd (cc)
  written-inserted (Some x) v w up place here value at =
      ap internal_view (with_value-from_at cmp total node k i x up place at w)
      ∙ found-inserted x w (sym here ∙ at)

  pub inserted-view : (v w : V) → Ascends cmp (items_of (internal_view node)) → Ok i ≡ place_of cmp k (items_of (internal_view node)) → slice_get (items_of (internal_view node)) i ≡ found cmp k (items_of (internal_view node)) → Some v ≡ option_map (λ x. x.1) (slice_get (items_of (internal_view node)) i) → internal_view (internal_with_value_at i node w) ≡ with_inserted cmp k w (internal_view node)
  inserted-view v w up place here value =
      written-inserted (slice_get (items_of (internal_view node)) i) v w up (sym place) here value refl
