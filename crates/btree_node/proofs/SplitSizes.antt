-- How many items the left part of a split has.
use Rattle.btree_node.proofs.Common.{◌≡◌, ◌∙◌, ap, length-map, View, size_of, leaf_view, internal_view}
use Rattle.btree_view.specs.Edits.{IsSplit}
use Rattle.btree_leaf.specs.Leaf.{Leaf}
use Rattle.btree_internal.specs.Internal.{Internal}

module _ {K V : Type 0} where
  pub size-split_leaf : (node : Leaf K V) (x : K × V) (left right : View (K × V)) → IsSplit (leaf_view node) x left right → size_of left ≡ 4
  size-split_leaf node x left right parts = ap size_of parts.4 ∙ parts.3

  pub size-split_internal : (node : Internal K V) (x : K × V) (left right : View (K × V)) → IsSplit (internal_view node) x left right → size_of left ≡ 3
  size-split_internal node x left right parts = ap size_of parts.5 ∙ length-map parts.0 (λ b. b.0) ∙ parts.4
