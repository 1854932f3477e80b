-- Why an insertion by key into an internal node did nothing.
use Rattle.std.specs.Prelude.{◌≡◌, Some, None}
use Rattle.std.specs.declared.cmp.Ordering.{Ordering}
use Rattle.btree_item.specs.Pairs.{before, found}
use Rattle.btree_view.specs.LookUp.{child_for}
use Rattle.btree_view.specs.View.{View, items_of}
use Rattle.btree_internal.specs.declared.internal.InsertionError.{InsertionError}

-- the key is not in the node; key and value come back, with the index and the number of the child that may hold the key
pub record NamesChildFor {K V : Type 0} (cmp : K → K → Ordering) (k : K) (w : V) (node : View (K × V)) (error : InsertionError K V) : Type 0 where
  pub absent : found cmp k (items_of node) ≡ None
  pub key : error.key ≡ k
  pub value : error.value ≡ w
  pub offset : error.child_offset ≡ before cmp k (items_of node)
  pub child : Some error.child_id ≡ child_for cmp k node
