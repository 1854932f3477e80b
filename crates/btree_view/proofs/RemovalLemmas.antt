-- What a removal from a leaf returns, by what is at the offset; and what the result says of the node, which removals
-- from a tree cite.
use Rattle.std.proofs.Common.{◌≡◌, ◌<◌, ◌≤◌, ◌∷◌, [], ℕ, zero, suc, List, Option, Some, None, Ok, Err, length, map, refl, sym, ap, ◌∙◌, arith}
use Rattle.std.specs.Option.{option_map}
use Rattle.std.specs.Prelude.{slice_get, IsSome, IsTrue}
use Rattle.std.proofs.lemmas.List.{length-map}
use Rattle.std.proofs.lemmas.Option.{slice_get_past}
use Rattle.btree_view.specs.Edits.{is_internal}
use Rattle.btree_view.specs.Removal.{item_or_child, removal_in}
use Rattle.btree_view.specs.View.{View, leaf, internal, child_before_offset, children_of, item_at_offset, items_of, last_child_of, size_of}
use Rattle.btree_item.proofs.StoreLemmas.{is_some-within}

mapped : {X Y : Type 0} (o : Option X) (y : Y) → IsSome o → option_map (λ x. y) o ≡ Some y
mapped None y is = absurd (cc)
mapped (Some x) y is = refl

module _ {A : Type 0} where
  -- of a leaf the item at the offset is removed itself
  pub removal-leaf : (parent : Option ℕ) (xs : List A) (offset : Option ℕ) (x : A) → Some x ≡ item_at_offset (leaf parent xs) offset → Some (Ok x) ≡ removal_in offset (leaf parent xs)
  removal-leaf parent xs None x is = absurd (cc)
  removal-leaf parent xs (Some i) x is = ap (option_map Ok) is

  module _ (node : View A) (offset : Option ℕ) (i : ℕ) (at : Some i ≡ offset) where
    -- at an offset past the items nothing is removed
    pub removal-past : size_of node ≤ i → None ≡ removal_in offset node
    removal-past past =
        sym (ap (option_map (λ x. item_or_child x (slice_get (children_of node) i))) (slice_get_past (items_of node) i past))
        ∙ ap (λ o. removal_in o node) at

    -- of an internal node the child before the item is where the removal goes on
    pub removal-internal : (id : ℕ) → i < size_of node → slice_get (children_of node) i ≡ Some id → Some (Err id) ≡ removal_in offset node
    removal-internal id within child =
        sym (ap (λ c. option_map (λ x. item_or_child x c) (slice_get (items_of node) i)) child
        ∙ mapped (slice_get (items_of node) i) (Err id) (is_some-within (items_of node) i within))
        ∙ ap (λ o. removal_in o node) at

module _ {A : Type 0} where
  none-from_mapped : {Y : Type 0} (f : A → Y) (o : Option A) → None ≡ option_map f o → o ≡ None
  none-from_mapped f None is = refl
  none-from_mapped f (Some x) is = absurd (cc)

  item-from_mapped : (x : A) (o : Option A) → Some (item_or_child x None) ≡ option_map (λ y. item_or_child y None) o → o ≡ Some x
  item-from_mapped x None is = absurd (cc)
  item-from_mapped x (Some y) is = cc

  -- an item of an internal node has a child before it
  no_item-internal : (items : List A) (children : List ℕ) (i : ℕ) (x : A) → length items < length children → Some (Ok x) ≡ option_map (λ y. item_or_child y (slice_get children i)) (slice_get items i) → ⊥
  no_item-internal [] children i x more is = absurd (cc)
  no_item-internal (y ∷ ys) [] i x more is = absurd (omega (arith, more))
  no_item-internal (y ∷ ys) (c ∷ cs) zero x more is = absurd (cc)
  no_item-internal (y ∷ ys) (c ∷ cs) (suc i) x more is = no_item-internal ys cs i x (omega (arith, more)) is

  child-from_mapped : (id : ℕ) (o : Option A) (c : Option ℕ) → Some (Err id) ≡ option_map (λ y. item_or_child y c) o → (x : A) × (o ≡ Some x) × (c ≡ Some id)
  child-from_mapped id None c is = absurd (cc)
  child-from_mapped id (Some y) None is = absurd (cc)
  child-from_mapped id (Some y) (Some k) is = (y, refl, cc)

  -- where a removal returns nothing, there is no item at the offset
  pub no_item-from_removal : (node : View A) (offset : Option ℕ) → None ≡ removal_in offset node → item_at_offset node offset ≡ None
  no_item-from_removal node offset is = none-from_mapped (λ x. item_or_child x (child_before_offset node offset)) (item_at_offset node offset) is

  -- where a removal returns an item, it is at that offset of a leaf
  pub item-from_removal : (node : View A) (offset : Option ℕ) (x : A) → Some (Ok x) ≡ removal_in offset node
      → (parent : Option ℕ) × (xs : List A) × (i : ℕ) × (node ≡ leaf parent xs) × (offset ≡ Some i) × (slice_get xs i ≡ Some x)
  item-from_removal node None x is = absurd (cc)
  item-from_removal (leaf parent xs) (Some i) x is = (parent, xs, i, refl, refl, item-from_mapped x (slice_get xs i) is)
  item-from_removal (internal parent first branches) (Some i) x is =
      let items = length-map branches (λ b. b.0) in
      let children = length-map branches (λ b. b.1) in
      absurd (no_item-internal (map (λ b. b.0) branches) (first ∷ map (λ b. b.1) branches) i x (omega (arith, items, children)) is)

  -- where a removal returns a child, it is before an item of an internal node
  pub child-from_removal : (node : View A) (offset : Option ℕ) (id : ℕ) → Some (Err id) ≡ removal_in offset node
      → (i : ℕ) × (x : A) × (offset ≡ Some i) × IsTrue (is_internal node) × (slice_get (items_of node) i ≡ Some x)
      × (slice_get (children_of node) i ≡ Some id)
  child-from_removal node None id is = absurd (cc)
  child-from_removal (leaf parent xs) (Some i) id is =
      let at = child-from_mapped id (slice_get xs i) None is in
      absurd (let no = at.2 in cc)
  child-from_removal (internal parent first branches) (Some i) id is =
      let at = child-from_mapped id (slice_get (map (λ b. b.0) branches) i) (slice_get (first ∷ map (λ b. b.1) branches) i) is in
      (i, at.0, refl, refl, at.1, at.2)

  -- a node without a last child is a leaf
  pub leaf-from_no_child : (node : View A) → None ≡ last_child_of node → (parent : Option ℕ) × (xs : List A) × (node ≡ leaf parent xs)
  leaf-from_no_child (leaf parent xs) none = (parent, xs, refl)
  leaf-from_no_child (internal parent first branches) none =
      let items = length-map branches (λ b. b.0) in
      let children = length-map branches (λ b. b.1) in
      let is = is_some-within (first ∷ map (λ b. b.1) branches) (length (map (λ b. b.0) branches)) (omega (arith, items, children)) in
      absurd (cc)
