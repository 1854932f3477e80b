-- What rebalancing makes of a tree that is off by one at a node.
-- Read `IsRebalanced` first: the tree is well formed except for its length, which stays, with the same list and no
-- refusal counted. The returned address is valid, at the place and item of the old one; if there was nothing to
-- rebalance (`IsFit`), it is the old one. Then its two bounds on nodes, both within the strain: `AllocatesForSplits` if
-- the node overflowed, by the cuts of `IsOverflowSplit`; else `FreesNodes`, by the steps of `IsUnderflowFixed`.
-- `IsRefusal` is the other outcome, only if the node overflows and the store may refuse one of the nodes of the splits.
-- `rebalance` cites `IsRebalanced` and `IsRefusal`.
use Rattle.std.specs.Prelude.{◌≡◌, ℕ, ◌+◌, ◌≤◌, Option, Some, IsSome}
use Rattle.std.specs.FinMap as map
use Rattle.std.specs.declared.cmp.Ordering.{Ordering}
use Rattle.btree_store.specs.Content.{Content}
use Rattle.btree_item.specs.Address.{Address}
use Rattle.btree_item.specs.declared.refused.Cause.{Cause}
use Rattle.btree_item.specs.declared.refused.Cause.TheVariants.{Store}
use Rattle.btree_node.specs.declared.node.Node.{Node}
use Rattle.btree_view.specs.View.{View, NodeMap, most_of, size_of}
use Rattle.btree_laws.specs.UnderflowFix.{IsUnderflowFixed}
use Rattle.btree_laws.specs.Strain.{debt_of}
use Rattle.btree_laws.specs.TreeState.{TreeState, HasLevels, HasStrain, IsBTreeButLength, IsPlaceIn, IsValidIn, item_of, node_map, nodes_for_splits, pairs_of}
use Rattle.btree_laws.specs.WellFormed.{IsSized}
use Rattle.btree_raw.specs.Claimed.{EMPTY, MayRefuseOneOf}
use Rattle.btree_raw.specs.OverflowSplit.{IsOverflowSplit}
use Rattle.btree_raw.specs.Raw.{Refuses}
use Rattle.btree_raw.specs.Steps.{Overflows}

-- node `id` does not overflow
pub record HasRoom {A : Type 0} (node_at : NodeMap A) (id : ℕ) : Type 0 where
  pub node : View A
  pub here : node_at id ≡ Some node
  pub room : size_of node ≤ most_of node

-- node `id` of the tree with this root has enough items and not too many
pub record IsFit {A : Type 0} (node_at : NodeMap A) (root : Option ℕ) (id : ℕ) : Type 0 where
  pub top : ℕ
  pub at_root : root ≡ Some top
  pub node : View A
  pub here : node_at id ≡ Some node
  pub sized : IsSized top id node

-- nothing has changed, and address a stays what it is
pub record StaysAsIs {K V : Type 0} (old new : TreeState K V) (a b : Address) : Type 0 where
  pub same_tree : new ≡ old
  pub same_address : b ≡ a

module _ {K V : Type 0} (old new : TreeState K V) (id : ℕ) where
  -- exactly the nodes that the splits need were allocated; their number and the strain afterwards are together at
  -- most the strain before
  pub record AllocatesForSplits (before after : ℕ) : Type 0 where
    pub more : map.len new.nodes ≡ map.len old.nodes + nodes_for_splits old id
    pub within_strain : nodes_for_splits old id + after ≤ before

  -- `freed` nodes were freed, at most as many as the tree had levels; their number and the strain afterwards are
  -- together at most the strain before, plus one if the node had no items
  pub record FreesNodes (node : View (K × V)) (before after : ℕ) : Type 0 where
    pub freed : ℕ
    pub fewer : map.len old.nodes ≡ map.len new.nodes + freed
    pub within : (levels : ℕ) → HasLevels old levels → freed ≤ levels
    pub within_strain : freed + after ≤ before + debt_of node

  -- the tree is well formed except for its length, with the same pairs; address a became b, at the same place, and at
  -- the same item if there was one; the nodes allocated or freed are within the strain; if node `id` overflows, the nodes
  -- are cut as `IsOverflowSplit` says; if not, the steps are those of `IsUnderflowFixed`; and if it is fit, tree and
  -- address stay as they are
  pub record IsRebalanced (cmp : K → K → Ordering) (a b : Address) : Type 0 where
    pub well : IsBTreeButLength cmp new
    pub pairs : pairs_of new ≡ pairs_of old
    pub len : new.len ≡ old.len
    pub uncounted : new.kept ≡ old.kept
    pub valid : IsValidIn new b
    pub place : (place : ℕ) → IsPlaceIn old a place → IsPlaceIn new b place
    pub item : (x : K × V) → item_of old a ≡ Some x → item_of new b ≡ Some x
    pub back : IsSome a.offset → IsSome b.offset
    pub settled : IsFit (node_map old) old.root id → StaysAsIs old new a b
    pub fixed : HasRoom (node_map old) id → (root : ℕ) → old.root ≡ Some root → IsUnderflowFixed (node_map old) (node_map new) root new.root id
    pub split : Overflows (node_map old) id → (root : ℕ) → old.root ≡ Some root → IsOverflowSplit (node_map old) (node_map new) root new.root id
    pub before : ℕ
    pub after : ℕ
    pub strain_before : HasStrain old before
    pub strain_after : HasStrain new after
    pub allocated : Overflows (node_map old) id → AllocatesForSplits before after
    pub freed : (room : HasRoom (node_map old) id) → FreesNodes room.node before after

  -- the store refused a node, and the refusal was counted; this happens only if node `id` overflows and the store may
  -- refuse one of the nodes that the splits need; nothing else has changed
  pub record IsRefusal (MayRefuse : Content (Node K V) → Type 0) (cause : Cause) : Type 0 where
    pub store : cause ≡ Store
    pub unchanged : Refuses old new
    pub over : Overflows (node_map old) id
    pub may : MayRefuseOneOf EMPTY MayRefuse old.nodes (nodes_for_splits old id)
