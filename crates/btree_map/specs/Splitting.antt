-- What a map keeps that is split at a key.
use Rattle.std.specs.Prelude.{◌≡◌, ◌∷◌, ◌++◌, List, false, true}
use Rattle.std.specs.BTreeMap.Range.{is_from_start}
use Rattle.std.specs.List.{AllByRecursion}
use Rattle.std.specs.declared.cmp.Ordering.{Ordering}
use Rattle.std.specs.declared.ops.Bound.{Bound}
use Rattle.btree_item.specs.declared.refused.Refused.{Refused}

-- all pairs are from a start bound on
abbrev pub AreFrom : {K V : Type 0} → (K → K → Ordering) → (start : Bound K) → List (K × V) → Type 0
AreFrom cmp start pairs = AllByRecursion (λ x. is_from_start cmp start x.0 ≡ true) pairs

-- all pairs are before it
abbrev pub AreBefore : {K V : Type 0} → (K → K → Ordering) → (start : Bound K) → List (K × V) → Type 0
AreBefore cmp start pairs = AllByRecursion (λ x. is_from_start cmp start x.0 ≡ false) pairs

-- a pair was refused: those before it were kept, and those after it were moved
abbrev pub StopsAtRefused : {K V : Type 0} → (old kept : List (K × V)) → Refused K V → (moved : List (K × V)) → Type 0
StopsAtRefused old kept refused moved = old ≡ kept ++ (refused.key, refused.value) ∷ moved
