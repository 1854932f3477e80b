-- What calls on a raw tree, a tree of any content, require and leave.
use Rattle.std.specs.Prelude.{◌≡◌, ℕ, ◌<◌, List, None, IsSome}
use Rattle.std.specs.FinMap as map
use Rattle.btree_store.specs.Content.{Content}
use Rattle.btree_node.specs.declared.node.Node.{Node}
use Rattle.btree_node.specs.Node.{view_of}
use Rattle.btree_view.specs.View.{children_of}
use Rattle.btree_laws.specs.Lists.{times_listed}
use Rattle.btree_laws.specs.Step.{Reparents}
use Rattle.btree_laws.specs.Place.{IsWithin}
use Rattle.btree_laws.specs.TreeState.{TreeState, KeepsRest, node_map, refused_once, views}
use Rattle.btree_item.specs.Address.{Address}

module _ {K V : Type 0} where
  -- each of these numbers is that of a node
  abbrev pub AreUsed : Content (Node K V) → List ℕ → Type 0
  AreUsed nodes ids = (n : ℕ) → 0 < times_listed n ids → IsSome (map.get nodes n)

  -- the state with this node under the number, and nothing else different
  abbrev pub with_node : TreeState K V → ℕ → Node K V → TreeState K V
  with_node s id node = record s { nodes = map.insert s.nodes id node }

  -- a refusal was counted; nothing else has changed
  abbrev pub Refuses : (old new : TreeState K V) → Type 0
  Refuses old new = new ≡ record old { kept = refused_once old.kept }

  -- the address is in a node, from -1 to the number of its items
  abbrev pub IsWithinNode : TreeState K V → Address → Type 0
  IsWithinNode s a = IsWithin (node_map s) (node_map s a.id) a.offset

  -- the node is there under a number that was not used, and its children name it as their parent; nothing else has
  -- changed
  pub record GainsNode (old new : TreeState K V) (id : ℕ) (node : Node K V) : Type 0 where
    pub vacant : map.get old.nodes id ≡ None
    pub adopted : Reparents (views (map.insert old.nodes id node)) (node_map new) id (children_of (view_of node))
    pub rest : KeepsRest old new
