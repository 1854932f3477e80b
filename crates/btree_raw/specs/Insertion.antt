-- What an insertion into a raw tree at exactly an address requires and leaves.
-- Read `PutsItem` first: the item is in the node, with the child after it. `insert_exactly_at` requires that the nodes
-- are off by one then (`IsOffByOneWith`), or, without a root, that there is no node. `InsertsExactly` is what it leaves:
-- with a root the rebalanced content with the item (`IsPutAndRebalanced`), else one node (`IsOnlyItem`); `UsesNeeded`
-- says how many nodes that took. `IsRefused` is the other outcome. An insertion is granted only where the length is below
-- its limit (`IsBelowLimit`).
use Rattle.std.specs.Prelude.{◌≡◌, ◌≢◌, ℕ, ◌+◌, ◌≤◌, [], ◌∷◌, Option, Some, None}
use Rattle.std.specs.FinMap as map
use Rattle.std.specs.declared.cmp.Ordering.{Ordering}
use Rattle.btree_store.specs.Content.{Content}
use Rattle.btree_item.specs.Address.{Address}
use Rattle.btree_item.specs.declared.refused.Cause.{Cause}
use Rattle.btree_item.specs.declared.refused.Cause.TheVariants.{Store, Count}
use Rattle.btree_node.specs.declared.node.Node.{Node}
use Rattle.btree_view.specs.View.{View, NodeMap, most_of, size_of}
use Rattle.btree_laws.specs.Place.{IsLeaf}
use Rattle.btree_laws.specs.TreeState.{TreeState, Changes, IsBTreeButLength, IsOffByOneAt, IsPlaceIn, IsValidIn, item_of, node_map, nodes_for_splits, nodes_needed, pairs_of}
use Rattle.btree_raw.specs.Claimed.{EMPTY, MayRefuseOneOf}
use Rattle.btree_raw.specs.Limit.{IsBelowLimit}
use Rattle.btree_raw.specs.Raw.{Refuses}
use Rattle.btree_raw.specs.Rebalance.{IsRebalanced}
use Rattle.btree_raw.specs.Steps.{AddsItem, CanAddItem, HasParent, Overflows}

-- node `id` has no room for an item, unless it is split
pub record IsFull {A : Type 0} (node_at : NodeMap A) (id : ℕ) : Type 0 where
  pub node : View A
  pub here : node_at id ≡ Some node
  pub full : most_of node ≤ size_of node

-- node `id` is a leaf without room, and names this parent
pub record IsFullLeaf {A : Type 0} (node_at : NodeMap A) (id : ℕ) (parent : Option ℕ) : Type 0 where
  pub full : IsFull node_at id
  pub leaf : IsLeaf node_at (node_at id)
  pub named : HasParent node_at id parent

module _ {K V : Type 0} where
  -- the item x was put at address a, which is at an index of a node, and a child after it exactly in an internal node;
  -- the node had at most one item fewer than it can hold, and nothing else has changed
  pub record PutsItem (old put : TreeState K V) (a : Address) (x : K × V) (child : Option ℕ) : Type 0 where
    pub index : ℕ
    pub offset : a.offset ≡ Some index
    pub can : CanAddItem (node_map old) a.id index child
    pub adds : Changes (λ p q. AddsItem p q a.id index x child) old put

  -- without a root: the address is nowhere, no child is given, and there are no nodes
  pub record IsVacant (s : TreeState K V) (a : Address) (child : Option ℕ) : Type 0 where
    pub valid : IsValidIn s a
    pub childless : child ≡ None
    pub empty : map.len s.nodes ≡ 0

  -- the item x is the only one, in the only node, and is at address b
  pub record IsOnlyItem (s : TreeState K V) (b : Address) (x : K × V) : Type 0 where
    pub pairs : pairs_of s ≡ x ∷ []
    pub place : IsPlaceIn s b 0
    pub nodes : map.len s.nodes ≡ 1

  -- an insertion at node `id` used exactly the nodes that it needed if the node was full, or if there was no root; at
  -- another node it used none, and may have freed some
  pub record UsesNeeded (old new : TreeState K V) (id : ℕ) : Type 0 where
    pub full : IsFull (node_map old) id → map.len new.nodes ≡ map.len old.nodes + nodes_needed old id
    pub first : old.root ≡ None → map.len new.nodes ≡ map.len old.nodes + nodes_needed old id
    pub room : old.root ≢ None → (IsFull (node_map old) id → ⊥) → map.len new.nodes ≤ map.len old.nodes

  module _ (cmp : K → K → Ordering) where
    -- with the item put at address a the nodes are off by one at its node
    pub record IsOffByOneWith (s : TreeState K V) (a : Address) (x : K × V) (child : Option ℕ) : Type 0 where
      pub put : TreeState K V
      pub puts : PutsItem s put a x child
      pub off : IsOffByOneAt cmp put a.id

    -- the content with the item put at address a was rebalanced, and address a became b; if the node overflowed, exactly
    -- the nodes needed in the old content were allocated
    pub record IsPutAndRebalanced (old new : TreeState K V) (a b : Address) (x : K × V) (child : Option ℕ) : Type 0 where
      pub put : TreeState K V
      pub puts : PutsItem old put a x child
      pub rebalanced : IsRebalanced put (record new { len = old.len }) a.id cmp a b
      pub needed : Overflows (node_map put) a.id → nodes_for_splits put a.id ≡ nodes_needed old a.id

    -- the item x was inserted at address a and is at address b, with the nodes that this needed and no others
    pub record InsertsExactly (old new : TreeState K V) (a b : Address) (x : K × V) (child : Option ℕ) : Type 0 where
      pub below_limit : IsBelowLimit old
      pub tree : IsBTreeButLength cmp new
      pub valid : IsValidIn new b
      pub item : item_of new b ≡ Some x
      pub longer : new.len ≡ old.len + 1
      pub uncounted : new.kept ≡ old.kept
      pub nodes : UsesNeeded old new a.id
      pub put : old.root ≢ None → IsPutAndRebalanced old new a b x child
      pub first : old.root ≡ None → IsOnlyItem new b x

-- an insertion at a node was refused, and nothing else has changed. With the cause `Store`: the store refused a node
-- and counted the refusal; it may refuse one of the needed nodes, and the length is below its limit. With the cause
-- `Count`: the length has reached its limit
abbrev pub IsRefused : {K V : Type 0} → (Content (Node K V) → Type 0) → (id : ℕ) → (old new : TreeState K V) → Cause → Type 0
IsRefused MayRefuse id old new Store =
    Refuses old new × MayRefuseOneOf EMPTY MayRefuse old.nodes (nodes_needed old id) × IsBelowLimit old
IsRefused MayRefuse id old new Count = (new ≡ old) × (old.kept.limit ≤ old.len)
