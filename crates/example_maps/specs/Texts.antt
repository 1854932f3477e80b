-- A count of words, looked up by their texts.
use Rattle.std.specs.Prelude.{ℕ, List, Option, String}
use Rattle.btree_slab.specs.Pairs.{found_value}
use Rattle.btree_slab.specs.Queries.{by_text}

module _ {A : Type 0} where
  -- how often the word with a text was counted, if it was
  abbrev pub count_in : List ℕ → List (String A × ℕ) → Option ℕ
  count_in text counts = found_value by_text text counts
