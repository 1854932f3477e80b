-- The values in a list of options.
use Rattle.std.specs.Prelude.{◌≡◌, List, [], ◌∷◌, Option, Some, None, map}

-- the values, in order
abbrev pub somes : {T : Type 0} → List (Option T) → List T
somes [] = []
somes (None ∷ slots) = somes slots
somes (Some x ∷ slots) = x ∷ somes slots

-- every option holds a value
pub record AreSome {T : Type 0} (slots : List (Option T)) : Type 0 where
  pub are : slots ≡ map Some (somes slots)
