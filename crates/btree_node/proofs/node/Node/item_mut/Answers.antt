use Rattle.btree_node.proofs.NodeSizes.{fits-internal, fits-leaf}
use borrow.Enum.Known.{at}
use borrow.Enum.Total.{values_d, values_o}
use borrow.Follows.Closed.{read_of}
use Rattle.btree_node.proofs.Common.{param, ◌≡◌, subst, refl, ap, sym, ◌∙◌, slice_get, Node, leaf_view, internal_view, view_of, items_of}
use Rattle.std.specs.Option.{ghost_name_of, option_and_then}
use Rattle.btree_node.specs.contracts.node.Node.{enum as node_enum}
use Rattle.btree_leaf.specs.Leaf.{Leaf as LeafParts}
use Rattle.btree_leaf.specs.LeafLends.{leaf_with_item_at}
use Rattle.btree_internal.specs.Internal.{Internal as InternalParts}
use Rattle.btree_internal.specs.InternalLends.{internal_with_item_at}
use Rattle.btree_node.specs.NodeLends.{node_with_item_at}
use Rattle.btree_node.proofs.NodeLemmas.{put_when}
use Rattle.btree_node.proofs.node.Node.item_mut.Goals as goal

pub item_mut-requires : goal.item_mut-requires
item_mut-requires g c = search fits-internal

pub item_mut-requires-in-Leaf : goal.item_mut-requires-in-Leaf
item_mut-requires-in-Leaf g c = search fits-leaf

pub returns-in-Internal : goal.returns-in-Internal
returns-in-Internal g c =
    let value = c.item_mut.ensures.value ∙ ap (λ n. option_and_then (slice_get (items_of (internal_view n))) c.args.offset) c.in-Internal.node-is ∙ sym (ap (λ n. option_and_then (slice_get (items_of (view_of n))) c.args.offset) c.in-Internal.is) in
    let P : Node g.row.K.Denot g.row.V.Denot → Type 0 = λ x. read_of (ghost_name_of c.item_mut.result) (λ z. put_when (λ (y : InternalParts g.row.K.Denot g.row.V.Denot) v. at (node_enum (param 0 g.row.K) (param 1 g.row.V)) 0 (y, v.1)) (values_o (node_enum (param 0 g.row.K) (param 1 g.row.V)) 0 x) x (internal_with_item_at c.args.offset ((values_d (node_enum (param 0 g.row.K) (param 1 g.row.V)) 0 (c.in-Internal.node, tt) x).0) z)) (put_when (λ (y : InternalParts g.row.K.Denot g.row.V.Denot) v. at (node_enum (param 0 g.row.K) (param 1 g.row.V)) 0 (y, v.1)) (values_o (node_enum (param 0 g.row.K) (param 1 g.row.V)) 0 x) x ((values_d (node_enum (param 0 g.row.K) (param 1 g.row.V)) 0 (c.in-Internal.node, tt) x).0)) ≡ read_of (ghost_name_of c.item_mut.result) (node_with_item_at c.args.offset x) x in
    (subst P (sym c.in-Internal.is) refl, record { writes_back = tt; value = value })

pub returns-in-Leaf : goal.returns-in-Leaf
returns-in-Leaf g c =
    let value = c.item_mut-in-Leaf.ensures.value ∙ ap (λ n. option_and_then (slice_get (items_of (leaf_view n))) c.args.offset) c.in-Leaf.leaf-is ∙ sym (ap (λ n. option_and_then (slice_get (items_of (view_of n))) c.args.offset) c.in-Leaf.is) in
    let P : Node g.row.K.Denot g.row.V.Denot → Type 0 = λ x. read_of (ghost_name_of c.item_mut-in-Leaf.result) (λ z. put_when (λ (y : LeafParts g.row.K.Denot g.row.V.Denot) v. at (node_enum (param 0 g.row.K) (param 1 g.row.V)) 1 (y, v.1)) (values_o (node_enum (param 0 g.row.K) (param 1 g.row.V)) 1 x) x (leaf_with_item_at c.args.offset ((values_d (node_enum (param 0 g.row.K) (param 1 g.row.V)) 1 (c.in-Leaf.leaf, tt) x).0) z)) (put_when (λ (y : LeafParts g.row.K.Denot g.row.V.Denot) v. at (node_enum (param 0 g.row.K) (param 1 g.row.V)) 1 (y, v.1)) (values_o (node_enum (param 0 g.row.K) (param 1 g.row.V)) 1 x) x ((values_d (node_enum (param 0 g.row.K) (param 1 g.row.V)) 1 (c.in-Leaf.leaf, tt) x).0)) ≡ read_of (ghost_name_of c.item_mut-in-Leaf.result) (node_with_item_at c.args.offset x) x in
    (subst P (sym c.in-Leaf.is) refl, record { writes_back = tt; value = value })
