-- One step along ranges that may be those of a set.
use Rattle.std.proofs.Common.{◌≡◌, ◌↔◌, ◌≤◌, ◌<◌, IsTrue, false, true, List, [], ◌∷◌, ℕ, suc, sym, subst, refl}
use Rattle.btree_range_set.specs.Ranges.{AreRunsFrom}

module _ (runs : Type 0) (low : ℕ) (xs rest : List (ℕ × ℕ)) (x : ℕ × ℕ) (is : xs ≡ x ∷ rest) (so_far : runs ↔ AreRunsFrom low xs) where
  first : AreRunsFrom low xs → AreRunsFrom low (x ∷ rest)
  first h = subst (AreRunsFrom low) is h

  pub run-follows : low ≤ x.0 → x.0 < x.1 → runs ↔ AreRunsFrom (suc x.1) rest
  run-follows from some = (λ h. (first (so_far.0 h)).2, λ h. so_far.1 (subst (AreRunsFrom low) (sym is) (from, some, h)))

  pub run-fails : ((low ≤ x.0) × (x.0 < x.1) → IsTrue false) → IsTrue false ↔ runs
  run-fails fails = (λ no. absurd (let bad : false ≡ true = no in cc), λ h. let all = first (so_far.0 h) in fails (all.0, all.1))

pub runs-end : (runs : Type 0) (low : ℕ) (xs : List (ℕ × ℕ)) → xs ≡ [] → runs ↔ AreRunsFrom low xs → IsTrue true ↔ runs
runs-end runs low xs is so_far = (λ yes. so_far.1 (subst (AreRunsFrom low) (sym is) tt), λ h. refl)
