-- What an insertion by key leaves of a node that needs no new child.
use Rattle.btree_item.specs.Pairs.{inserted}
use Rattle.btree_view.specs.Edits.{with_items}
use Rattle.btree_view.specs.View.{View, items_of}
use Rattle.std.specs.declared.cmp.Ordering.{Ordering}

-- with the pair inserted by key; the children stay
abbrev pub with_inserted : {K V : Type 0} → (K → K → Ordering) → K → V → View (K × V) → View (K × V)
with_inserted cmp k w node = with_items (inserted cmp k w (items_of node)) node
