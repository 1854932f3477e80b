-- What calls leave of a store's nodes: one node written, numbers claimed, children under a new parent, a node split.
-- Each says what has changed, and that no other node has. Contracts cite them by `Changes` (`TreeState`).
use Rattle.std.specs.Prelude.{◌≡◌, ◌≢◌, ℕ, ◌+◌, ◌<◌, List, [], ◌∷◌, Option, Some, None, option_map}
use Rattle.btree_view.specs.View.{View, internal, NodeMap, parent_of, items_of, children_of}
use Rattle.btree_view.specs.Edits.{with_parent, is_internal, IsSplit}
use Rattle.btree_laws.specs.WellFormed.{times_used}
use Rattle.btree_laws.specs.Lists.{times_listed}

module _ {A : Type 0} (node_at new : NodeMap A) where
  -- `node` is under number `id` now, a node or nothing; no other node has changed
  pub record Becomes (id : ℕ) (node : Option (View A)) : Type 0 where
    pub here : new id ≡ node
    pub others : (n : ℕ) → n ≢ id → new n ≡ node_at n

  abbrev pub WritesNode : (id : ℕ) → View A → Type 0
  WritesNode id node = Becomes id (Some node)

  abbrev pub RemovesNode : (id : ℕ) → Type 0
  RemovesNode id = Becomes id None

  -- these numbers were not used and are used now; no other node has changed
  pub record Claims (spare : List ℕ) : Type 0 where
    pub counted : (n : ℕ) → times_used (new n) ≡ times_used (node_at n) + times_listed n spare
    pub kept : (n : ℕ) → times_listed n spare ≡ 0 → new n ≡ node_at n

  -- these children have a new parent; no other node has changed
  pub record Reparents (parent : ℕ) (children : List ℕ) : Type 0 where
    pub moved : (n : ℕ) → 0 < times_listed n children → new n ≡ option_map (with_parent (Some parent)) (node_at n)
    pub kept : (n : ℕ) → times_listed n children ≡ 0 → new n ≡ node_at n

  -- node i is split: its left part stays there, and its right part is node j, whose children name j as their parent; no
  -- other node has changed
  pub record Splits (i j : ℕ) (median : A) : Type 0 where
    pub node : View A
    pub left : View A
    pub right : View A
    pub here : node_at i ≡ Some node
    pub parts : IsSplit node median left right
    pub at_left : new i ≡ Some left
    pub at_right : new j ≡ Some right
    pub moved : (n : ℕ) → n ≢ i → n ≢ j → 0 < times_listed n (children_of right)
        → new n ≡ option_map (with_parent (Some j)) (node_at n)
    pub kept : (n : ℕ) → n ≢ i → n ≢ j → times_listed n (children_of right) ≡ 0 → new n ≡ node_at n

  -- node r is a new root over the parts i and j of the old one, which name it as their parent; no other node has
  -- changed
  pub record GrowsRoot (i j r : ℕ) (median : A) : Type 0 where
    pub root : new r ≡ Some (internal None i ((median, j) ∷ []))
    pub at_left : new i ≡ option_map (with_parent (Some r)) (node_at i)
    pub at_right : new j ≡ option_map (with_parent (Some r)) (node_at j)
    pub kept : (n : ℕ) → n ≢ r → n ≢ i → n ≢ j → new n ≡ node_at n

-- a node with these items, and otherwise like the old one
pub record HasItems {A : Type 0} (old new : View A) (items : List A) : Type 0 where
  pub kind : is_internal new ≡ is_internal old
  pub parent : parent_of new ≡ parent_of old
  pub children : children_of new ≡ children_of old
  pub items_are : items_of new ≡ items
