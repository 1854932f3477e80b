-- What is left of a forward walk through a tree in order.
-- Such a walk keeps the internal nodes on its path, each with how many of its items it has passed. So the pairs that
-- are left can be read off these nodes (`remaining_above`). `Rows.antt` of `btree_walk` says the same of an iterator.
use Rattle.std.specs.Prelude.{ℕ, suc, ◌+◌, ◌<◌, List, [], ◌∷◌, ◌++◌, Option}
use Rattle.std.specs.List.{flat_map, AllByRecursion}
use Rattle.btree_item.specs.declared.TheConstants.{MAX_LEVELS}
use Rattle.btree_view.specs.View.{NodeMap}
use Rattle.btree_laws.specs.Represents.{Represents, represented}

-- A row is what is left of one internal node: the items that are not passed yet, each with the child after it. The rows
-- of a place go from the root down to it.
module _ {A : Type 0} (node_at : NodeMap A) (levels : ℕ) where
  -- each item of a row, and the list that the child after it represents
  abbrev pub remaining_in : List (A × ℕ) → List A
  remaining_in row = flat_map (λ b. b.0 ∷ represented node_at levels b.1) row

  -- what is left in all rows; the lowest row comes first
  abbrev pub remaining_above : List (List (A × ℕ)) → List A
  remaining_above [] = []
  remaining_above (row ∷ rows) = remaining_above rows ++ remaining_in row

  -- node `id`, with `depth` nodes above it, represents a list and is fewer than `levels` levels above the leaves; a
  -- tree has at most 32 levels
  pub record IsUnder (depth id : ℕ) : Type 0 where
    pub height : ℕ
    pub parent : Option ℕ
    pub list : List A
    pub represents : Represents node_at height parent id list
    pub low : height < levels
    pub room : depth + height < MAX_LEVELS

  -- the children of a row are one level below the row's node, and so is the node of the next row
  abbrev pub AreRows : (depth : ℕ) → List (List (A × ℕ)) → Type 0
  AreRows depth [] = Unit {0}
  AreRows depth (row ∷ rows) = AllByRecursion (λ b. IsUnder (suc depth) b.1) row × AreRows (suc depth) rows
