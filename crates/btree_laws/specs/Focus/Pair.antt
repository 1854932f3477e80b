-- Two adjacent subtrees of the same height, with the item of their parent between them.
use Rattle.std.specs.Prelude.{◌≡◌, ℕ, zero, suc, [], ◌∷◌, ◌++◌, Option, Some, None}
use Rattle.btree_laws.specs.Focus.Subtree.{Subtree, id_of}

module _ (A : Type 0) where
  -- the number of the first child, if there is one
  abbrev pub first_of : (height : ℕ) → Subtree A height → Option ℕ
  first_of zero subtree = None
  first_of (suc height) subtree = Some (id_of A height subtree.1)

  -- one item goes from right to left, through the item between them, together with the first child of the right one;
  -- read backwards, one item goes from left to right
  abbrev pub Rotates : (height : ℕ) → (left : Subtree A height) → A → (right : Subtree A height) → (new_left : Subtree A height)
      → A → (new_right : Subtree A height) → Type 0
  Rotates zero left x right new_left y new_right =
      (new_left ≡ (left.0, left.1 ++ x ∷ [])) × (right ≡ (new_right.0, y ∷ new_right.1))
  Rotates (suc height) left x right new_left y new_right =
      (new_left ≡ (left.0, left.1, left.2 ++ (x, right.1) ∷ []))
      × (right ≡ (new_right.0, right.1, (y, new_right.1) ∷ new_right.2))
