-- How full a node is, by numbers alone.
use Rattle.std.specs.Prelude.{ℕ, nat_lt, ◌==◌, if◌then◌else◌}
use Rattle.btree_item.specs.declared.TheConstants.{MIN_ITEMS}
use Rattle.btree_view.specs.declared.balance.Balance.{Balance}
use Rattle.btree_view.specs.declared.balance.Balance.TheVariants.{Balanced, Overflow, Underflow}

-- how a number of items compares with `most`, the most that a well formed tree has in such a node, and with the fewest
abbrev pub balance_with : (most items : ℕ) → Balance
balance_with most items =
    if nat_lt most items then Overflow
    else if nat_lt items MIN_ITEMS then Underflow (items == 0)
    else Balanced
