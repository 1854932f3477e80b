-- What a node has that was fetched, or just written: how many items, and which parent.
use Rattle.btree_raw.proofs.Common.{◌≡◌, ◌∙◌, ℕ, Option, Some, ap, option_map, refl, sym, Content, Node, view_of, View, NodeMap, parent_of, size_of, views, writes_node, HasCount, HasParent}
use Rattle.std.specs.FinMap as map

module _ {K V : Type 0} (nodes : Content (Node K V)) (id : ℕ) (node : Node K V) where
  module _ (at : map.get nodes id ≡ Some node) where
    pub count-there : (count : ℕ) → count ≡ size_of (view_of node) → HasCount (views nodes) id count
    count-there count e = ap (λ n. option_map size_of (option_map view_of n)) at ∙ ap Some (sym e)

    pub parent-there : (parent : Option ℕ) → parent ≡ parent_of (view_of node) → HasParent (views nodes) id parent
    parent-there parent e = ap (λ n. option_map parent_of (option_map view_of n)) at ∙ ap Some (sym e)

  written : views (map.insert nodes id node) id ≡ Some (view_of node)
  written = (writes_node nodes (map.insert nodes id node) id node refl).here

  -- a node that was written has the number of items that was counted in it
  pub count-written : (count : ℕ) → count ≡ size_of (view_of node) → HasCount (views (map.insert nodes id node)) id count
  count-written count e = ap (option_map size_of) written ∙ ap Some (sym e)

  -- a node that was written has the parent that was read in it
  pub parent-written : (parent : Option ℕ) → parent ≡ parent_of (view_of node) → HasParent (views (map.insert nodes id node)) id parent
  parent-written parent e = ap (option_map parent_of) written ∙ ap Some (sym e)

-- the parent of a node that is there
pub parent-named : {A : Type 0} (node_at : NodeMap A) (id : ℕ) (v : View A) → node_at id ≡ Some v → (parent : Option ℕ) → HasParent node_at id parent
    → parent_of v ≡ parent
parent-named node_at id v here parent named =
    let q : Some (parent_of v) ≡ Some parent = sym (ap (option_map parent_of) here) ∙ named in cc
