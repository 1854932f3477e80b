-- The order of the underflow fixes at small trees, checked line by line.
use Rattle.btree_laws.proofs.Common.{◌≡◌, ◌≢◌, ℕ, zero, suc, [], ◌∷◌, Some, None, refl, arith, leaf, internal, NodeMap, Merges, ShrinksRoot, RotatesLeft, times_listed}
use Rattle.btree_laws.specs.UnderflowFix.{IsUnderflowFixed, borrows, empties, from_right, merges, shrinks_root, with_right}

-- the middle leaf has two items, and both its siblings have one to spare: it borrows one from the right sibling
abbrev short : NodeMap ℕ
short zero = Some (leaf (Some 3) (1 ∷ 2 ∷ 3 ∷ 4 ∷ []))
short (suc zero) = Some (leaf (Some 3) (6 ∷ 7 ∷ []))
short (suc (suc zero)) = Some (leaf (Some 3) (9 ∷ 10 ∷ 11 ∷ 12 ∷ []))
short (suc (suc (suc zero))) = Some (internal None 0 ((5, 1) ∷ (8, 2) ∷ []))
short (suc (suc (suc (suc n)))) = None

abbrev even : NodeMap ℕ
even zero = Some (leaf (Some 3) (1 ∷ 2 ∷ 3 ∷ 4 ∷ []))
even (suc zero) = Some (leaf (Some 3) (6 ∷ 7 ∷ 8 ∷ []))
even (suc (suc zero)) = Some (leaf (Some 3) (10 ∷ 11 ∷ 12 ∷ []))
even (suc (suc (suc zero))) = Some (internal None 0 ((5, 1) ∷ (9, 2) ∷ []))
even (suc (suc (suc (suc n)))) = None

turned : RotatesLeft short even 3 1 1 2
turned = record {
  top = internal None 0 ((5, 1) ∷ (8, 2) ∷ []);
  low = leaf (Some 3) (6 ∷ 7 ∷ []);
  high = leaf (Some 3) (9 ∷ 10 ∷ 11 ∷ 12 ∷ []);
  new_top = internal None 0 ((5, 1) ∷ (9, 2) ∷ []);
  new_low = leaf (Some 3) (6 ∷ 7 ∷ 8 ∷ []);
  new_high = leaf (Some 3) (10 ∷ 11 ∷ 12 ∷ []);
  down = 8;
  up = 9;
  child = None;
  down_is = refl;
  child_for = refl;
  top_is = record { kind = refl; parent = refl; items_are = refl; children_are = refl };
  low_is = record { kind = refl; parent = refl; items_are = refl; children_are = refl };
  high_is = record { kind = refl; parent = refl; items_are = refl; children_are = refl };
  writes = record {
    at_parent = refl;
    at_left = refl;
    at_right = refl;
    new_parent = refl;
    new_left = refl;
    new_right = refl;
    moved = λ n p l r m. absurd (omega arith);
    kept = kept;
  };
}
  where
    kept : (n : ℕ) → n ≢ 3 → n ≢ 1 → n ≢ 2 → times_listed n [] ≡ 0 → even n ≡ short n
    kept zero p l r z = refl
    kept (suc zero) p l r z = absurd (l refl)
    kept (suc (suc zero)) p l r z = absurd (r refl)
    kept (suc (suc (suc zero))) p l r z = absurd (p refl)
    kept (suc (suc (suc (suc n)))) p l r z = refl

pub takes_from_the_right : IsUnderflowFixed short even 3 (Some 3) 1
takes_from_the_right = borrows short 1 3 (record { apart = λ e. absurd (omega arith); few = omega arith; named = refl })
    (from_right 1 2 refl (refl, omega arith) turned) refl

-- the first leaf has two items, and its sibling three: they are merged, and the root, left without items, is freed
abbrev pair : NodeMap ℕ
pair zero = Some (leaf (Some 2) (1 ∷ 2 ∷ []))
pair (suc zero) = Some (leaf (Some 2) (4 ∷ 5 ∷ 6 ∷ []))
pair (suc (suc zero)) = Some (internal None 0 ((3, 1) ∷ []))
pair (suc (suc (suc n))) = None

abbrev merged : NodeMap ℕ
merged zero = Some (leaf (Some 2) (1 ∷ 2 ∷ 3 ∷ 4 ∷ 5 ∷ 6 ∷ []))
merged (suc zero) = None
merged (suc (suc zero)) = Some (internal None 0 [])
merged (suc (suc (suc n))) = None

abbrev single : NodeMap ℕ
single zero = Some (leaf None (1 ∷ 2 ∷ 3 ∷ 4 ∷ 5 ∷ 6 ∷ []))
single (suc n) = None

merging : Merges pair merged 2 0 0 1
merging = record {
  top = internal None 0 ((3, 1) ∷ []);
  low = leaf (Some 2) (1 ∷ 2 ∷ []);
  high = leaf (Some 2) (4 ∷ 5 ∷ 6 ∷ []);
  new_top = internal None 0 [];
  new_low = leaf (Some 2) (1 ∷ 2 ∷ 3 ∷ 4 ∷ 5 ∷ 6 ∷ []);
  down = 3;
  at_parent = refl;
  at_left = refl;
  at_right = refl;
  down_is = refl;
  top_is = record { kind = refl; parent = refl; items_are = refl; children_are = refl };
  low_is = record { kind = refl; parent = refl; items_are = refl; children_are = refl };
  new_parent = refl;
  new_left = refl;
  removed = refl;
  moved = λ n p l r m. absurd (omega arith);
  kept = kept;
}
  where
    kept : (n : ℕ) → n ≢ 2 → n ≢ 0 → n ≢ 1 → times_listed n [] ≡ 0 → merged n ≡ pair n
    kept zero p l r z = absurd (l refl)
    kept (suc zero) p l r z = absurd (r refl)
    kept (suc (suc zero)) p l r z = absurd (p refl)
    kept (suc (suc (suc n))) p l r z = refl

released : ShrinksRoot merged single 2 0
released = record {
  node = internal None 0 [];
  at_root = refl;
  only = refl;
  removed = refl;
  new_child = refl;
  kept = kept;
}
  where
    kept : (n : ℕ) → n ≢ 2 → n ≢ 0 → single n ≡ merged n
    kept zero p c = absurd (c refl)
    kept (suc zero) p c = refl
    kept (suc (suc zero)) p c = absurd (p refl)
    kept (suc (suc (suc n))) p c = refl

pub merges_and_releases : IsUnderflowFixed pair single 2 (Some 0) 0
merges_and_releases = merges pair merged 0 2 (record { apart = λ e. absurd (omega arith); few = omega arith; named = refl })
    (with_right 1 refl refl (omega arith) merging) (shrinks_root merged 2 0 refl refl released refl)

-- a root leaf without items is freed
abbrev bare : NodeMap ℕ
bare zero = Some (leaf None [])
bare (suc n) = None

pub empties_the_tree : IsUnderflowFixed bare (λ n. None) 0 None 0
empties_the_tree = empties bare 0 refl refl (record { here = refl; others = others }) refl
  where
    others : (n : ℕ) → n ≢ 0 → None ≡ bare n
    others zero a = absurd (a refl)
    others (suc n) a = refl
