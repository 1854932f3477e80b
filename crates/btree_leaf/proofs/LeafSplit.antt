-- The parts of a leaf that is split.
use Rattle.btree_leaf.proofs.Common.{◌≡◌, ◌++◌, length, sym, ◌∙◌, ap, leaf, Leaf, leaf_view}
use Rattle.std.proofs.Common.{ℕ, List, ◌∷◌, Option}
use Rattle.btree_view.specs.Edits.{IsSplit}

module _ {K V : Type 0} where
  pub IsSplit-leaf : (node : Leaf K V) (parent : Option ℕ) (items : List (K × V)) → record { parent = parent; items = items } ≡ node → (rest tail : List (K × V)) (x : K × V) → items ≡ rest ++ x ∷ tail → length rest ≡ 4 → IsSplit (leaf_view node) x (leaf parent rest) (leaf parent tail)
  IsSplit-leaf node parent items is rest tail x parts front =
      let same = ap (λ l. l.parent) is in
      (rest, tail, sym (ap (λ l. l.items) is) ∙ parts, front, ap (λ p. leaf p rest) same, ap (λ p. leaf p tail) same)
