-- How many nodes of a tree have an item left, if the items from place `from` on and before place `to` are left.
-- A node's items are those of its subtree, from one place on and before another; an item is left in it if the two
-- stretches of places meet.
use Rattle.std.specs.Prelude.{ℕ, zero, suc, ◌+◌, ◌-◌, min, max, List, [], ◌∷◌, length, Option, Some, None}
use Rattle.btree_view.specs.View.{View, leaf, internal, NodeMap}
use Rattle.btree_laws.specs.Focus.Subtree.{Subtree, items_under}
use Rattle.btree_laws.specs.Place.{IsPlaceAfter, IsPlaceBefore}
use Rattle.btree_laws.specs.Represents.{represented, represented_in}

-- 1 if the places from `start` on and before `end` meet those from `from` on and before `to`, else 0
abbrev pub meets : (from to start end : ℕ) → ℕ
meets from to start end = min 1 (min end to - max start from)

module _ (A : Type 0) (from to : ℕ) where
  -- how many nodes of a subtree have an item left, if its items begin at place `start`
  abbrev pub met_later : (height : ℕ) → (ℕ → Subtree A height → ℕ) → ℕ → List (A × Subtree A height) → ℕ
  met_later height met start [] = 0
  met_later height met start (b ∷ bs) = met (start + 1) b.1 + met_later height met (start + 1 + length (items_under A height b.1)) bs

  abbrev pub met : (height : ℕ) → ℕ → Subtree A height → ℕ
  met zero start t = meets from to start (start + length t.1)
  met (suc height) start t =
      meets from to start (start + length (items_under A (suc height) t))
      + (met height start t.1 + met_later height (met height) (start + length (items_under A height t.1)) t.2)

  -- the same of the nodes of a store under a number, down to at most `levels` levels
  module _ (node_at : NodeMap A) where
    abbrev pub nodes_later : (levels : ℕ) → (ℕ → ℕ → ℕ) → ℕ → List (A × ℕ) → ℕ
    nodes_later levels below start [] = 0
    nodes_later levels below start (b ∷ bs) = below (start + 1) b.1 + nodes_later levels below (start + 1 + length (represented node_at levels b.1)) bs

    abbrev pub nodes_in : (levels : ℕ) → (ℕ → ℕ → ℕ) → ℕ → Option (View A) → ℕ
    nodes_in levels below start None = 0
    nodes_in levels below start (Some (leaf parent items)) = meets from to start (start + length items)
    nodes_in levels below start (Some (internal parent first branches)) =
        meets from to start (start + length (represented_in (represented node_at levels) (Some (internal parent first branches))))
        + (below start first + nodes_later levels below (start + length (represented node_at levels first)) branches)

    abbrev pub nodes_under : (levels : ℕ) → ℕ → ℕ → ℕ
    nodes_under zero start id = 0
    nodes_under (suc levels) start id = nodes_in levels (nodes_under levels) start (node_at id)

-- The stretches that the count reads are those of the addresses: that of a node begins at the place of its address at
-- -1, and ends at the place of its last address. `AreStretches` says so along the count's own recursion.
module _ {A : Type 0} (xs : List A) (node_at : NodeMap A) where
  -- the stretch of a node of a tree of the items xs begins at place `start`
  pub record IsStretch (levels start id : ℕ) : Type 0 where
    pub before : IsPlaceBefore node_at xs id start
    pub after : IsPlaceAfter node_at xs id (start + length (represented node_at levels id))

  abbrev pub AreLaterStretches : (levels : ℕ) → (ℕ → ℕ → Type 0) → ℕ → List (A × ℕ) → Type 0
  AreLaterStretches levels Below start [] = Unit {0}
  AreLaterStretches levels Below start (b ∷ bs) =
      Below (start + 1) b.1 × AreLaterStretches levels Below (start + 1 + length (represented node_at levels b.1)) bs

  abbrev pub AreStretchesIn : (levels : ℕ) → (ℕ → ℕ → Type 0) → ℕ → Option (View A) → Type 0
  AreStretchesIn levels Below start None = Unit {0}
  AreStretchesIn levels Below start (Some (leaf parent items)) = Unit {0}
  AreStretchesIn levels Below start (Some (internal parent first branches)) =
      Below start first × AreLaterStretches levels Below (start + length (represented node_at levels first)) branches

  -- so begin those of a node and of all nodes below it
  abbrev pub AreStretches : (levels start id : ℕ) → Type 0
  AreStretches zero start id = Unit {0}
  AreStretches (suc levels) start id =
      IsStretch (suc levels) start id × AreStretchesIn levels (AreStretches levels) start (node_at id)
