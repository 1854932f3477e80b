-- The children of a node by their index.
use Rattle.btree_valid.proofs.Common.{◌≡◌, ◌≤◌, ◌<◌, ◌∷◌, [], ℕ, zero, suc, List, length, IsTrue, Some, slice_get, arith, View, children_of, internal, leaf, size_of}
use Rattle.btree_view.specs.Edits.{is_internal}
use Rattle.btree_laws.proofs.Paths.SiblingNumbers.{children-count}

found-below : {B : Type 0} (xs : List B) (index : ℕ) (x : B) → Some x ≡ slice_get xs index → index < length xs
found-below [] index x found = absurd (cc)
found-below (y ∷ ys) zero x found = omega arith
found-below (y ∷ ys) (suc index) x found = let below = found-below ys index x found in omega arith

-- the index of a child is at most the number of items
pub child-within : {A : Type 0} (v : View A) (index child : ℕ) → Some child ≡ slice_get (children_of v) index → IsTrue (is_internal v) → index ≤ size_of v
child-within (leaf p xs) index child found is = absurd (cc)
child-within {A} (internal p first bs) index child found is =
    let below = found-below (children_of (internal p first bs)) index child found in
    let count = children-count (internal p first bs) is in
    omega arith
