-- A node as bytes, by its parts.
use Rattle.std.proofs.Common.{◌≡◌, ℕ, ◌-◌, ◌^◌, ◌<◌, ◌++◌, true, false, List, length, map, Option, Some, None, IsSome, refl, arith}
use Rattle.std.specs.Prelude.{IfSome, option_map, slice_get}
use Rattle.std.specs.List.{flat_map}
use Rattle.std.proofs.lemmas.List.{length-map}
use Rattle.btree_view.specs.Edits.{is_internal}
use Rattle.btree_view.specs.View.{View, branches_of, children_of, items_of, parent_of, size_of}
use Rattle.btree_view.specs.View.{leaf, internal}
use Rattle.btree_image.specs.Image.{branch, number, place, word}
use Rattle.btree_image.specs.Reading.{word_at}
use Rattle.btree_spelled.specs.Spelled.{Read}
use Rattle.btree_image.specs.Written.{AreBranchesRead, AreItemsRead, IsPlaceRead, IsReadBy, IsSizedNode}
use Rattle.btree_image.proofs.Again.{internal-again, leaf-again}

module _ {A : Type 0} where
  -- an internal node has as many branches as items
  pub size-branches : (v : View A) → is_internal v ≡ true → size_of v ≡ length (branches_of v)
  size-branches (leaf parent items) e = absurd cc
  size-branches (internal parent first branches) e = length-map branches (λ b. b.0)

  -- it has a first child
  pub some-child : (v : View A) → is_internal v ≡ true → 0 < length (children_of v)
  some-child (leaf parent items) e = absurd cc
  some-child (internal parent first branches) e = omega arith

  module _ (spell : A → List ℕ) where
    pub leaf-text : (v : View A) → is_internal v ≡ false → word 1 ++ number (parent_of v) ++ word (size_of v) ++ flat_map spell (items_of v) ≡ place spell (Some v)
    leaf-text (leaf parent items) e = refl
    leaf-text (internal parent first branches) e = absurd cc

    pub internal-text : (v : View A) (child : ℕ) → is_internal v ≡ true → slice_get (children_of v) 0 ≡ Some child
        → word 2 ++ number (parent_of v) ++ word (size_of v) ++ word child ++ flat_map (branch spell) (branches_of v) ≡ place spell (Some v)
    internal-text (leaf parent items) child e at = absurd cc
    internal-text (internal parent first branches) child e at =
        let same : first ≡ child = cc in
        let long : length (map (λ (b : A × ℕ). b.0) branches) ≡ length branches = length-map branches (λ b. b.0) in
        rw (← same, long) refl

module _ {K V : Type 0} (spell_key : K → List ℕ) (spell_value : V → List ℕ) (read_key : Read K) (read_value : Read V) where
  pub leaf-read : (v : View (K × V)) → is_internal v ≡ false → IsSizedNode v → IfSome (parent_of v) (λ n. n < 2 ^ 64 - 1) → AreItemsRead spell_key spell_value read_key read_value (items_of v)
      → IsPlaceRead spell_key spell_value read_key read_value (Some v)
  leaf-read (leaf parent items) e sized bound each = leaf-again spell_key spell_value read_key read_value parent items bound sized.some (omega (arith, sized.fits)) each
  leaf-read (internal parent first branches) e sized bound each = absurd cc

  pub internal-read : (v : View (K × V)) (child : ℕ) → is_internal v ≡ true → slice_get (children_of v) 0 ≡ Some child → IsSizedNode v → IfSome (parent_of v) (λ n. n < 2 ^ 64 - 1) → IsReadBy word_at word child
      → AreBranchesRead spell_key spell_value read_key read_value (branches_of v) → IsPlaceRead spell_key spell_value read_key read_value (Some v)
  internal-read (leaf parent items) child e at sized bound low each = absurd cc
  internal-read (internal parent first branches) child e at sized bound low each =
      let same : first ≡ child = cc in
      let long : length (map (λ (b : (K × V) × ℕ). b.0) branches) ≡ length branches = length-map branches (λ b. b.0) in
      internal-again spell_key spell_value read_key read_value parent first branches bound (rw same low) (omega (arith, sized.some, long)) (omega (arith, sized.fits, long)) each

-- no node is under a number that is not used
pub not-used : {X Y : Type 0} (f : X → Y) (o : Option X) → ¬ IsSome o → option_map f o ≡ None
not-used f None unused = refl
not-used f (Some x) unused = absurd (unused refl)
