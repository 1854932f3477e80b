-- An array as bytes: those of each value in turn.
use Rattle.std.specs.Prelude.{◌≡◌, ℕ, zero, suc, List, [], ◌∷◌, ◌++◌, length, Some, option_map}
use Rattle.std.specs.List.{flat_map}
use Rattle.std.specs.Option.{option_and_then}
use Rattle.btree_spelled.specs.Spelled.{Read}

module _ {T : Type 0} where
  abbrev pub items_bytes : (T → List ℕ) → List T → List ℕ
  items_bytes spell items = flat_map spell items

  -- the first so many values, each read from what the one before it left
  unfoldable pub items_read : Read T → ℕ → Read (List T)
  items_read read zero bytes = Some ([], bytes)
  items_read read (suc n) bytes =
      option_and_then (λ before. option_map (λ last. (before.0 ++ last.0 ∷ [], last.1)) (read before.1)) (items_read read n bytes)

  -- what is written for these values is read as them
  abbrev pub AreReadBack : (T → List ℕ) → Read T → List T → Type 0
  AreReadBack spell read items = (rest : List ℕ) → items_read read (length items) (items_bytes spell items ++ rest) ≡ Some (items, rest)
