-- What a number or a text finds in a list that a call has left: after an insertion or a removal of its own key, and of another one.
-- Each law takes the clause of the call, so that `search` applies it.
use Rattle.std.proofs.Common.{◌≡◌, ◌∙◌, ℕ, List, None, Some, String, cond, ap}
use Rattle.std.proofs.lemmas.Cmp.{nat_cmp_total}
use Rattle.std.specs.Ordering.{nat_cmp}
use Rattle.std.specs.Prelude.{string_bytes, string_cmp}
use Rattle.btree_item.specs.Pairs.{Ascends, found_value, inserted}
use Rattle.btree_ext.specs.Remove.{removed}
use Rattle.btree_map.specs.Queries.{by_text}
use Rattle.btree_map.proofs.LookUpLaws.{inserted-key, inserted-other, inserted-text, inserted-text-other, number-apart, removed-key, removed-other, removed-text, removed-text-other, text-same}

-- ---- keys that are numbers
module _ {V : Type 0} (k : ℕ) (old new : List (ℕ × V)) where
  -- a number that was inserted finds its value
  pub number-inserted : (w : V) → new ≡ inserted nat_cmp k w old → found_value nat_cmp k new ≡ Some w
  number-inserted w is = ap (found_value nat_cmp k) is ∙ inserted-key nat_cmp_total k old w

  -- another one finds what it found before
  pub number-kept : (w : V) → new ≡ inserted nat_cmp k w old → (q : ℕ) → (k ≡ q → ⊥) → found_value nat_cmp q new ≡ found_value nat_cmp q old
  number-kept w is q differ = ap (found_value nat_cmp q) is ∙ inserted-other nat_cmp_total k old w q (number-apart k q differ)

  -- a number that was removed finds nothing
  pub number-removed : Ascends nat_cmp old → new ≡ removed nat_cmp k old → found_value nat_cmp k new ≡ None
  number-removed up is = ap (found_value nat_cmp k) is ∙ removed-key nat_cmp_total k old up

  -- another one finds what it found before
  pub number-left : Ascends nat_cmp old → new ≡ removed nat_cmp k old → (q : ℕ) → (k ≡ q → ⊥) → found_value nat_cmp q new ≡ found_value nat_cmp q old
  number-left up is q differ = ap (found_value nat_cmp q) is ∙ removed-other nat_cmp_total k old q (number-apart k q differ) up

-- ---- keys that are strings
module _ {A V : Type 0} (old new : List (String A × V)) where
  -- the text of a string that was inserted finds its value
  pub text-inserted : (word : String A) (w : V) → new ≡ inserted string_cmp word w old → (text : List ℕ) → string_bytes word ≡ text → found_value by_text text new ≡ Some w
  text-inserted word w is text same =
      ap (found_value by_text text) is ∙ inserted-text old word w text ∙ ap (λ b. cond b (Some w) (found_value by_text text old)) (text-same word text same)

  -- another text finds what it found before
  pub text-kept : (word : String A) (w : V) → new ≡ inserted string_cmp word w old → (text : List ℕ) → (string_bytes word ≡ text → ⊥)
      → found_value by_text text new ≡ found_value by_text text old
  text-kept word w is text differ = ap (found_value by_text text) is ∙ inserted-text-other old word w text differ

  -- a text whose string was removed finds nothing
  pub text-removed : (text : List ℕ) → Ascends string_cmp old → new ≡ removed by_text text old → found_value by_text text new ≡ None
  text-removed text up is = ap (found_value by_text text) is ∙ removed-text old text up

  -- another text finds what it found before
  pub text-left : (text other : List ℕ) → (text ≡ other → ⊥) → Ascends string_cmp old → new ≡ removed by_text text old
      → found_value by_text other new ≡ found_value by_text other old
  text-left text other differ up is = ap (found_value by_text other) is ∙ removed-text-other old text other differ up

pub ruleset found_laws = (number-inserted, number-kept, number-removed, number-left, text-inserted, text-kept, text-removed, text-left)
