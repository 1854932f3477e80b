-- What a set keeps that is split at an element.
use Rattle.std.specs.Prelude.{◌≡◌, ◌∷◌, ◌++◌, List, not, true}
use Rattle.std.specs.BTreeMap.Range.{is_from_start}
use Rattle.std.specs.List.{AllByRecursion, filter}
use Rattle.std.specs.declared.cmp.Ordering.{Ordering}
use Rattle.std.specs.declared.ops.Bound.{Bound}
use Rattle.btree_item.specs.declared.refused.Refused.{Refused}

-- the elements before a start bound
abbrev pub elements_before : {T : Type 0} → (T → T → Ordering) → (start : Bound T) → List T → List T
elements_before cmp start xs = filter (λ x. not (is_from_start cmp start x)) xs

-- all elements are from it on
abbrev pub AreFrom : {T : Type 0} → (T → T → Ordering) → (start : Bound T) → List T → Type 0
AreFrom cmp start xs = AllByRecursion (λ x. is_from_start cmp start x ≡ true) xs

-- an element was refused: those before it were kept, and those after it were moved
abbrev pub StopsAtRefused : {T : Type 0} → (old kept : List T) → Refused T (Unit {0}) → (moved : List T) → Type 0
StopsAtRefused old kept refused moved = old ≡ kept ++ refused.key ∷ moved
