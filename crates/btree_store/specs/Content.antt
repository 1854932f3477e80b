-- The content of a store: a finite map from numbers below `usize::MAX` to values. Its laws are the clauses of the
-- traits in `src/traits.rt`. The content of a `SlabStore` is computed from the slots of the slab that it is built on.
use Rattle.std.specs.Prelude.{◌≡◌, ℕ, ◌+◌, List, [], ◌∷◌, Option, Some, None}
use Rattle.std.specs.Borrow.{LendsIf, Fml, RattleType, MutBor}
use Rattle.std.specs.Ordering.{nat_cmp}
use Rattle.std.specs.FinMap.{FinMap, empty, insert}

-- a finite map from numbers to values
abbrev pub Content : Type 0 → Type 0
Content T = FinMap nat_cmp T

-- the content with this value put under a number
abbrev pub Gains : {T : Type 0} → (old new : Content T) → T → ℕ → Type 0
Gains old new value id = new ≡ insert old id value

-- once the borrow r ends, the value under the number is the last one that r pointed to; at `None` nothing changes
abbrev pub lends_under : (S T : RattleType) → (S.Denot → ℕ → T.Denot → S.Denot) → MutBor S.Denot → ℕ → Option (MutBor T.Denot) → Fml
lends_under S T written store id r = LendsIf S T store r (written store.now id) store.now

-- the values of these slots, each under its index, counted from the number of the first slot
abbrev pub content_from : {T : Type 0} → ℕ → List (Option T) → Content T
content_from first [] = empty
content_from first (None ∷ rest) = content_from (first + 1) rest
content_from first (Some value ∷ rest) = insert (content_from (first + 1) rest) first value
