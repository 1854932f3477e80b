use Rattle.btree_node.proofs.NodeSizes.{fits-internal, fits-leaf}
use borrow.Enum.Known.{at}
use borrow.Enum.Total.{values_d, values_o}
use Rattle.btree_node.proofs.Common.{param, ◌≡◌, subst, Some, None, Ok, Err, refl, ap, sym, ◌∙◌, Node, leaf_view, internal_view, view_of}
use Rattle.std.proofs.Common.{inl, inr}
use Rattle.btree_node.specs.contracts.node.Node.{enum as node_enum}
use Rattle.btree_leaf.specs.Leaf.{Leaf as LeafParts}
use Rattle.btree_internal.specs.Internal.{Internal as InternalParts}
use Rattle.btree_leaf.specs.LeafLends.{leaf_with_value}
use Rattle.btree_internal.specs.InternalLends.{internal_with_value}
use Rattle.btree_node.specs.NodeLends.{node_with_value}
use Rattle.btree_view.specs.LookUp.{find_in}
use Rattle.btree_node.proofs.LookUpLemmas.{find_in-from_look_up, find_in-from_found}
use Rattle.btree_node.proofs.NodeLemmas.{put_when}
use Rattle.btree_node.proofs.node.Node.find_mut.Goals as goal

pub get_mut-requires : goal.get_mut-requires
get_mut-requires g c = let up = rw c.in-Internal.is at c.requires in (search fits-internal, rw c.in-Internal.node-is up)

pub get_mut-requires-in-Leaf : goal.get_mut-requires-in-Leaf
get_mut-requires-in-Leaf g c = let up = rw c.in-Leaf.is at c.requires in (search fits-leaf, rw c.in-Leaf.leaf-is up)

pub returns-in-Ok : goal.returns-in-Ok
returns-in-Ok g c =
    let value = find_in-from_look_up g.K.Ord.cmp c.args.key.now _ (Ok c.in-Ok.value.now) c.in-Ok.ensures.value ∙ ap (λ n. find_in g.K.Ord.cmp c.args.key.now (internal_view n)) c.in-Internal.node-is ∙ sym (ap (λ n. find_in g.K.Ord.cmp c.args.key.now (view_of n)) c.in-Internal.is) in
    let P : Node g.row.K.Denot g.row.V.Denot → Type 0 = λ x. inl (c.in-Ok.value.ghost_name, λ z. put_when (λ (y : InternalParts g.row.K.Denot g.row.V.Denot) v. at (node_enum (param 0 g.row.K) (param 1 g.row.V)) 0 (y, v.1)) (values_o (node_enum (param 0 g.row.K) (param 1 g.row.V)) 0 x) x (internal_with_value g.K.Ord.cmp c.args.key.now ((values_d (node_enum (param 0 g.row.K) (param 1 g.row.V)) 0 (c.in-Internal.node, tt) x).0) z)) ≡ inl (c.in-Ok.value.ghost_name, node_with_value g.K.Ord.cmp c.args.key.now x) in
    (subst P (sym c.in-Internal.is) refl, record { writes_back = tt; value = value })

pub returns-in-Err : goal.returns-in-Err
returns-in-Err g c =
    let value = find_in-from_look_up g.K.Ord.cmp c.args.key.now _ (Err c.in-Err.id) c.in-Err.ensures.value ∙ ap (λ n. find_in g.K.Ord.cmp c.args.key.now (internal_view n)) c.in-Internal.node-is ∙ sym (ap (λ n. find_in g.K.Ord.cmp c.args.key.now (view_of n)) c.in-Internal.is) in
    let P : Node g.row.K.Denot g.row.V.Denot → Type 0 = λ x. inr (put_when (λ (y : InternalParts g.row.K.Denot g.row.V.Denot) v. at (node_enum (param 0 g.row.K) (param 1 g.row.V)) 0 (y, v.1)) (values_o (node_enum (param 0 g.row.K) (param 1 g.row.V)) 0 x) x ((values_d (node_enum (param 0 g.row.K) (param 1 g.row.V)) 0 (c.in-Internal.node, tt) x).0)) ≡ inr x in
    (subst P (sym c.in-Internal.is) refl, record { writes_back = tt; value = value })

pub returns-in-Some : goal.returns-in-Some
unfolding leaf_with_value
returns-in-Some g c =
    let value = find_in-from_found g.K.Ord.cmp c.args.key.now (leaf_view _) (Some c.in-Some.value.now) c.in-Some.ensures.value refl ∙ ap (λ n. find_in g.K.Ord.cmp c.args.key.now (leaf_view n)) c.in-Leaf.leaf-is ∙ sym (ap (λ n. find_in g.K.Ord.cmp c.args.key.now (view_of n)) c.in-Leaf.is) in
    let P : Node g.row.K.Denot g.row.V.Denot → Type 0 = λ x. inl (c.in-Some.value.ghost_name, λ z. put_when (λ (y : LeafParts g.row.K.Denot g.row.V.Denot) v. at (node_enum (param 0 g.row.K) (param 1 g.row.V)) 1 (y, v.1)) (values_o (node_enum (param 0 g.row.K) (param 1 g.row.V)) 1 x) x (leaf_with_value g.K.Ord.cmp c.args.key.now ((values_d (node_enum (param 0 g.row.K) (param 1 g.row.V)) 1 (c.in-Leaf.leaf, tt) x).0) z)) ≡ inl (c.in-Some.value.ghost_name, node_with_value g.K.Ord.cmp c.args.key.now x) in
    (subst P (sym c.in-Leaf.is) refl, record { writes_back = tt; value = value })

pub returns-in-None : goal.returns-in-None
returns-in-None g c =
    let value = find_in-from_found g.K.Ord.cmp c.args.key.now (leaf_view _) None c.in-None.ensures.value refl ∙ ap (λ n. find_in g.K.Ord.cmp c.args.key.now (leaf_view n)) c.in-Leaf.leaf-is ∙ sym (ap (λ n. find_in g.K.Ord.cmp c.args.key.now (view_of n)) c.in-Leaf.is) in
    let P : Node g.row.K.Denot g.row.V.Denot → Type 0 = λ x. inr (put_when (λ (y : LeafParts g.row.K.Denot g.row.V.Denot) v. at (node_enum (param 0 g.row.K) (param 1 g.row.V)) 1 (y, v.1)) (values_o (node_enum (param 0 g.row.K) (param 1 g.row.V)) 1 x) x ((values_d (node_enum (param 0 g.row.K) (param 1 g.row.V)) 1 (c.in-Leaf.leaf, tt) x).0)) ≡ inr x in
    (subst P (sym c.in-Leaf.is) refl, record { writes_back = tt; value = value })
