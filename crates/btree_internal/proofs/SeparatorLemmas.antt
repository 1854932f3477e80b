-- The keys next to a child, by the branches that hold them.
use Rattle.btree_internal.proofs.Common.{◌≡◌, ℕ, ◌-◌, ◌<◌, List, Option, Some, None, map, zero, suc, refl, sym, ◌∙◌, ap, arith, slice_get, option_map, Branch, Internal, branch_pair, internal_view}
use Rattle.std.proofs.lemmas.Option.{slice_get-map}
use Rattle.btree_internal.proofs.BranchLemmas.{items_are}
use Rattle.btree_view.specs.Separators.{separator_after, separator_before}

module _ {K V : Type 0} where
  key-item : (o : Option (Branch K V)) → option_map (λ b. b.item.0) o ≡ option_map (λ x. x.0) (option_map (λ b. b.item) o)
  key-item None = refl
  key-item (Some b) = refl

  module _ (node : Internal K V) (parent : Option ℕ) (first : ℕ) (bs : List (Branch K V)) (is : record { parent = parent; first = first; branches = map branch_pair bs } ≡ node) where
    pub key-after : (i : ℕ) (o : Option K) → o ≡ option_map (λ b. b.item.0) (slice_get bs i) → o ≡ separator_after (internal_view node) i
    key-after i o at =
        at ∙ key-item (slice_get bs i)
        ∙ ap (option_map (λ x. x.0)) (sym (slice_get-map (λ b. b.item) bs i) ∙ ap (λ l. slice_get l i) (items_are node parent first bs is))

    pub key-before : (i : ℕ) (o : Option K) → 0 < i → o ≡ option_map (λ b. b.item.0) (slice_get bs (i - 1)) → o ≡ separator_before (internal_view node) i
    key-before zero o after at = absurd (omega arith)
    key-before (suc i) o after at =
        let same : suc i - 1 ≡ i = omega arith in
        key-after i o (at ∙ ap (λ j. option_map (λ b. b.item.0) (slice_get bs j)) same)

  pub no-key-before : (node : Internal K V) (i : ℕ) (o : Option K) → i ≡ 0 → o ≡ None → o ≡ separator_before (internal_view node) i
  no-key-before node i o is none = none ∙ ap (separator_before (internal_view node)) (sym is)
