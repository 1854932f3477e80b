-- Two adjacent siblings, as plain functions see them.
use Rattle.std.specs.Prelude.{ℕ}
use Rattle.btree_raw.specs.declared.moved.siblings.Siblings.{Siblings}

-- a function of the left sibling, the right one, their parent and the index of its item between them
abbrev pub between : {X : Type 0} → (f : (left right parent index : ℕ) → X) → Siblings → X
between f siblings = f siblings.left siblings.right siblings.parent siblings.index
