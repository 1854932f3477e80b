-- The part of a list from one place up to another, without its first element, and without its last one.
use Rattle.btree_map.proofs.Common.{◌≡◌, ◌∙◌, ℕ, suc, ◌+◌, ◌-◌, ◌<◌, List, [], ◌∷◌, ◌++◌, Some, take, drop, set, slice_get, sym, ap, arith, length-drop, slice_get_within}
use Rattle.std.proofs.Common.{get_or, get_or-drop}
use Rattle.std.proofs.Math.Seq.{take-suc}
use Rattle.std.proofs.lemmas.List.{at_drop_more, drop-set-lt, drop-take, take-set-le}
use Rattle.std.proofs.lemmas.Option.{get_or_from_slice_get}

module _ {X : Type 0} (xs : List X) (front back : ℕ) (some : front < back) (x y : X) where
  pub span-first : slice_get xs front ≡ Some x
      → take (back - front) (drop front xs) ≡ x ∷ take (back - (front + 1)) (drop (front + 1) (set xs front y))
  span-first here =
      let within = slice_get_within xs front x here in
      let one : back - front ≡ suc (back - (front + 1)) = omega arith in
      ap (λ l. take (back - front) l) (at_drop_more (λ l. l) xs front x within)
      ∙ ap (λ n. take n (get_or xs front x ∷ drop (front + 1) xs)) one
      ∙ ap (λ z. z ∷ take (back - (front + 1)) (drop (front + 1) xs)) (get_or_from_slice_get xs front x x here)
      ∙ ap (λ l. x ∷ take (back - (front + 1)) l) (sym (drop-set-lt (front + 1) xs front y (omega arith)))

  pub span-last : slice_get xs (back - 1) ≡ Some x
      → take (back - front) (drop front xs) ≡ take (back - 1 - front) (drop front (set xs (back - 1) y)) ++ x ∷ []
  span-last here =
      let within = slice_get_within xs (back - 1) x here in
      let left = back - 1 - front in
      let one : back - front ≡ suc left = omega arith in
      let last : front + left ≡ back - 1 = omega arith in
      ap (λ n. take n (drop front xs)) one
      ∙ take-suc (drop front xs) left x (omega (arith, length-drop front xs))
      ∙ ap (λ z. take left (drop front xs) ++ z ∷ []) (get_or-drop front xs left x ∙ ap (λ n. get_or xs n x) last ∙ get_or_from_slice_get xs (back - 1) x x here)
      ∙ ap (λ l. l ++ x ∷ [])
      (sym (drop-take front left xs)
      ∙ ap (drop front) (sym (take-set-le (front + left) xs (back - 1) y (omega arith)))
      ∙ drop-take front left (set xs (back - 1) y))
