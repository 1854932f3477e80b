-- A pair as bytes: the one value after the other.
use Rattle.std.specs.Prelude.{List, ℕ, ◌++◌, option_map}
use Rattle.std.specs.Option.{option_and_then}
use Rattle.btree_spelled.specs.Spelled.{Read}

module _ {A B : Type 0} where
  abbrev pub pair_bytes : (A → List ℕ) → (B → List ℕ) → A × B → List ℕ
  pair_bytes spell_first spell_second x = spell_first x.0 ++ spell_second x.1

  unfoldable pub pair_read : Read A → Read B → Read (A × B)
  pair_read read_first read_second bytes =
      option_and_then (λ first. option_map (λ second. ((first.0, second.0), second.1)) (read_second first.1)) (read_first bytes)
