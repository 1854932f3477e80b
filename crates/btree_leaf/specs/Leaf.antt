-- A leaf as contracts see it.
use Rattle.std.specs.Prelude.{ℕ, List, Option, Some, None, Result, Ok, Err}
use Rattle.btree_item.specs.declared.item.Item.{Item}
use Rattle.btree_view.specs.Edits.{PopsRight}
use Rattle.btree_view.specs.View.{View, leaf}

-- the number of the parent, if there is one, and the pairs of keys and values, in order
pub record Leaf (K V : Type 0) : Type 0 where
  pub parent : Option ℕ
  pub items : List (Item K V)

-- a leaf as a node of the tree
abbrev pub leaf_view : {K V : Type 0} → Leaf K V → View (K × V)
leaf_view l = leaf l.parent l.items

-- the leaf is the rest with this item after its own
abbrev pub LeafPopsRight : {K V : Type 0} → Leaf K V → Leaf K V → Option ℕ × Item K V → Type 0
LeafPopsRight node rest popped = PopsRight (leaf_view node) (leaf_view rest) (popped.0, popped.1, None)

-- the result of a look-up in a leaf, with a place as an offset
abbrev pub as_offset : Result ℕ ℕ → Result (Option ℕ) (Option ℕ)
as_offset (Ok i) = Ok (Some i)
as_offset (Err i) = Err (Some i)
