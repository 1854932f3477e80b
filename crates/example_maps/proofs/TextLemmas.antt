-- How often a word is counted after its count was written or its pair inserted.
use Rattle.std.proofs.Common.{◌≡◌, ◌∙◌, ℕ, true, cond, List, ◌+◌, Option, Some, None, is_some, min, option_map, refl, ap, unwrap_or}
use Rattle.std.specs.Prelude.{String, string_bytes, string_cmp}
use Rattle.std.specs.declared.cmp.Ordering.{Ordering}
use Rattle.btree_slab.specs.Pairs.{found, found_value, inserted, with_value}
use Rattle.btree_slab.specs.LookUpLaws.{inserted-text, text-same}
use Rattle.btree_slab.specs.MapLaws.{found-written}
use Rattle.example_maps.specs.Texts.{count_in}

some-of : {X Y : Type 0} (f : X → Y) (o : Option X) (y : Y) → Some y ≡ option_map f o → is_some o ≡ true
some-of f None y is = absurd (cc)
some-of f (Some x) y is = refl

module _ {K Q : Type 0} (cmp : K → Q → Ordering) (k : Q) (limit : ℕ) (xs new : List (K × ℕ)) where
  -- a count that was there is one more
  pub counted-again : (was w : ℕ) → Some was ≡ found_value cmp k xs → new ≡ with_value cmp k w xs → w ≡ min (was + 1) limit
      → found_value cmp k new ≡ Some (min (unwrap_or (found_value cmp k xs) 0 + 1) limit)
  counted-again was w value wrote is =
      ap (found_value cmp k) wrote
      ∙ found-written cmp k xs w (some-of (λ x. x.1) (found cmp k xs) was value)
      ∙ ap Some is
      ∙ ap (λ o. Some (min (unwrap_or o 0 + 1) limit)) value

-- a word that was not there is counted once
pub counted-first : {A : Type 0} (word : String A) (text : List ℕ) (xs new : List (String A × ℕ)) → string_bytes word ≡ text → None ≡ count_in text xs
    → new ≡ inserted string_cmp word 1 xs → count_in text new ≡ Some (min (unwrap_or (count_in text xs) 0 + 1) 18446744073709551615)
counted-first word text xs new same absent put =
    ap (count_in text) put
    ∙ inserted-text xs word 1 text
    ∙ ap (λ b. cond b (Some 1) (count_in text xs)) (text-same word text same)
    ∙ ap (λ o. Some (min (unwrap_or o 0 + 1) 18446744073709551615)) absent
