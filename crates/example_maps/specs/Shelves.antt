-- Where parts lie: pairs of a part and a shelf.
use Rattle.std.specs.Prelude.{ℕ, List, filter}
use Rattle.std.specs.Map.{values_of}
use Rattle.std.specs.Ordering.{is_eq}
use Rattle.std.specs.declared.cmp.Ordering.{Ordering}

-- the shelves of a part, in order
abbrev pub shelves_of : {K : Type 0} → (K → K → Ordering) → (part : K) → List (K × ℕ) → List ℕ
shelves_of cmp part pairs = values_of (filter (λ pair. is_eq (cmp pair.0 part)) pairs)
