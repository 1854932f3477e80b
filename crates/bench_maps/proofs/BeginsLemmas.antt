-- Insertion before the first item of a map.
use Rattle.std.proofs.Common.{◌≡◌, ◌≤◌, ◌∙◌, ℕ, List, [], ◌∷◌, length, slice_get, Some, refl, ap, subst, arith}
use Rattle.std.specs.List.{insert}
use Rattle.std.specs.Ordering.{nat_cmp}
use Rattle.btree_item.specs.Address.{Address}
use Rattle.btree_laws.specs.TreeState.{TreeState, pairs_of}
use Rattle.btree_find.specs.Fits.{FitsAt}
use Rattle.btree_find.specs.Navigation.{HasPlace}
use Rattle.btree_ext.specs.InsertAt.{InsertsAt}
use Rattle.bench_maps.specs.Begins.{BeginsAt}

insert-first : (xs : List (ℕ × ℕ)) (x : ℕ × ℕ) → slice_get (insert xs 0 x) 0 ≡ Some x
insert-first [] x = refl
insert-first (y ∷ xs) x = refl

module _ (old new : TreeState ℕ ℕ) (a b : Address) (key value : ℕ) (r : InsertsAt old new a nat_cmp b (key, value)) where
  begins : r.place ≡ 0 → BeginsAt new b key
  begins is = record {
    valid = r.valid;
    back = r.back;
    has = subst (λ p. HasPlace new b p) is r.there;
    value = value;
    first = ap (λ l. slice_get l 0) (r.pairs ∙ ap (λ p. insert (pairs_of old) p (key, value)) is) ∙ insert-first (pairs_of old) (key, value);
  }

  -- the item inserted at the first one is the first one then
  pub begins-before : (first : ℕ) → BeginsAt old a first → BeginsAt new b key
  begins-before first there = begins (there.has.only r.place r.has.at)

  -- the item inserted into the empty map is the first one
  pub begins-empty : pairs_of old ≡ [] → FitsAt nat_cmp key old a → BeginsAt new b key
  begins-empty none fits =
      let same : r.place ≡ fits.place = fits.has.only r.place r.has.at in
      let within : fits.place ≤ 0 = subst (λ l. fits.place ≤ length l) none fits.fits.within in
      begins (omega arith)
