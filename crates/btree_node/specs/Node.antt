-- A node of either kind as definitions see it.
use Rattle.std.specs.Prelude.{ℕ, Option}
use Rattle.std.specs.Borrow.{Bor}
use Rattle.std.specs.Option.{option_map}
use Rattle.btree_item.specs.declared.item.Item.{Item}
use Rattle.btree_node.specs.declared.node.Node.{Node}
use Rattle.btree_node.specs.declared.node.Node.TheVariants.{Leaf, Internal}
use Rattle.btree_leaf.specs.Leaf.{leaf_view}
use Rattle.btree_internal.specs.Internal.{internal_view}
use Rattle.btree_view.specs.View.{View}

-- the view of a node
abbrev pub view_of : {K V : Type 0} → Node K V → View (K × V)
view_of (Leaf l) = leaf_view l
view_of (Internal n) = internal_view n

-- the item that a branch refers to, if there is one, with its child
abbrev pub branch_copied : {K V : Type 0} → Option (Bor (Item K V) × ℕ) → Option (Item K V × ℕ)
branch_copied branch = option_map (λ b. (b.0.now, b.1)) branch
