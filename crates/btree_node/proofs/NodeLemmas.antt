-- The view of a node after an insertion into one kind of node, and after a write to an item.
use mathlib.Core.Option as maybe
use Rattle.btree_node.proofs.Common.{◌≡◌, ℕ, Option, Some, None, refl, ap, sym, ◌∙◌, length-map, Node, leaf_view, view_of, View, items_of, children_of}
use Rattle.std.proofs.Common.{List, set, map, length, ◌∷◌}
use Rattle.std.proofs.lemmas.List.{length-set}
use Rattle.std.proofs.lemmas.Slice.Zip.{firsts-zip, seconds-zip}
use Rattle.btree_node.specs.declared.node.Node.TheVariants.{Leaf as OfLeaf, Internal as OfInternal}
use Rattle.btree_view.specs.Edits.{is_internal, with_item_at, with_items}
use Rattle.btree_leaf.specs.Leaf.{Leaf}
use Rattle.btree_view.specs.Kept.{insert_at}
use Rattle.btree_leaf.specs.LeafLends.{leaf_with_item_at}
use Rattle.btree_internal.specs.InternalLends.{internal_with_item_at}
use Rattle.btree_node.specs.NodeLends.{node_with_item_at}
use Rattle.btree_view.specs.View.{leaf, internal, parent_of}

-- a payload written if the value has that variant
abbrev pub put_when : {D P Y : Type 0} → (Y → P → D) → maybe.Option P → D → Y → D
put_when make maybe.none x y = x
put_when make (maybe.some v) x y = make y v

module _ {K V : Type 0} where
  pub with_item-leaf : (node : Leaf K V) (offset : Option ℕ) (item : K × V) (child : Option ℕ) (new : Leaf K V) → new ≡ record node { items = insert_at offset node.items item } → leaf_view new ≡ with_item_at offset item child (leaf_view node)
  with_item-leaf node None item child new is = ap leaf_view is
  with_item-leaf node (Some i) item child new is = ap leaf_view is

  pub item_at-view : (node : Node K V) (i : ℕ) (x : K × V) → view_of (node_with_item_at (Some i) node x) ≡ with_items (set (items_of (view_of node)) i x) (view_of node)
  unfolding leaf_with_item_at internal_with_item_at
  item_at-view (OfLeaf l) i x = refl
  item_at-view (OfInternal n) i x = refl

module _ {A : Type 0} where
  as_many : (branches : List (A × ℕ)) (i : ℕ) (x : A) → length (map (λ b. b.1) branches) ≡ length (set (map (λ b. b.0) branches) i x)
  as_many branches i x = length-map branches (λ b. b.1) ∙ sym (length-set (map (λ b. b.0) branches) i x ∙ length-map branches (λ b. b.0))

  with_items-kind : (xs : List A) (node : View A) → is_internal (with_items xs node) ≡ is_internal node
  with_items-kind xs (leaf parent items) = refl
  with_items-kind xs (internal parent first branches) = refl

  with_items-parent : (xs : List A) (node : View A) → parent_of (with_items xs node) ≡ parent_of node
  with_items-parent xs (leaf parent items) = refl
  with_items-parent xs (internal parent first branches) = refl

  set-items : (node : View A) (i : ℕ) (x : A) → items_of (with_items (set (items_of node) i x) node) ≡ set (items_of node) i x
  set-items (leaf parent items) i x = refl
  set-items (internal parent first branches) i x = firsts-zip _ _ (as_many branches i x)

  set-children : (node : View A) (i : ℕ) (x : A) → children_of (with_items (set (items_of node) i x) node) ≡ children_of node
  set-children (leaf parent items) i x = refl
  set-children (internal parent first branches) i x = ap (λ rest. first ∷ rest) (seconds-zip _ _ (as_many branches i x))

-- a write to an item: the kind, the parent and the children stay
module _ {K V : Type 0} (node : Node K V) (i : ℕ) (x : K × V) where
  -- a node whose item was exchanged is of the same kind
  pub item_at-kind : is_internal (view_of (node_with_item_at (Some i) node x)) ≡ is_internal (view_of node)
  item_at-kind = ap is_internal (item_at-view node i x) ∙ with_items-kind (set (items_of (view_of node)) i x) (view_of node)

  -- an exchange of an item keeps the node's parent
  pub item_at-parent : parent_of (view_of (node_with_item_at (Some i) node x)) ≡ parent_of (view_of node)
  item_at-parent = ap parent_of (item_at-view node i x) ∙ with_items-parent (set (items_of (view_of node)) i x) (view_of node)

  -- an exchange of an item changes the items at its index alone
  pub item_at-items : items_of (view_of (node_with_item_at (Some i) node x)) ≡ set (items_of (view_of node)) i x
  item_at-items = ap items_of (item_at-view node i x) ∙ set-items (view_of node) i x

  -- an exchange of an item keeps the node's children
  pub item_at-children : children_of (view_of (node_with_item_at (Some i) node x)) ≡ children_of (view_of node)
  item_at-children = ap children_of (item_at-view node i x) ∙ set-children (view_of node) i x
