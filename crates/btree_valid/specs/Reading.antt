-- What a reader may rest on in raw content of which `validate` names no position. The laws are in `proofs/ReadLaws.antt`.
use Rattle.std.specs.Prelude.{◌≡◌, ◌≤◌, ⊤, ℕ, Option, Result, Ok, Err}
use Rattle.std.specs.FinMap as finite
use Rattle.std.specs.declared.cmp.Ordering.{Ordering}
use Rattle.btree_item.specs.Pairs.{Ascends}
use Rattle.btree_item.specs.declared.fault.Fault.{Fault}
use Rattle.btree_item.specs.declared.fault.Fault.TheVariants.{WrongLength, Unreachable, OverLimit}
use Rattle.btree_node.specs.declared.node.Node.{Node}
use Rattle.btree_store.specs.Content.{Content}
use Rattle.btree_laws.specs.Lists.{times_listed}
use Rattle.btree_laws.specs.TreeState.{pairs_under, views}
use Rattle.btree_valid.specs.Verdicts.{items_met, numbers_met}

-- the answer names no check at a position: the tree is well formed, or it is but for its length, its limit, and other nodes
-- in the store
abbrev pub PassesPositions : Result ⊤ Fault → Type 0
PassesPositions (Ok passed) = Unit {0}
PassesPositions (Err WrongLength) = Unit {0}
PassesPositions (Err Unreachable) = Unit {0}
PassesPositions (Err OverLimit) = Unit {0}
PassesPositions (Err fault) = ⊥

-- no number is met twice, and the items met are the list of the tree, in ascending order
pub record IsReadable {K V : Type 0} (cmp : K → K → Ordering) (nodes : Content (Node K V)) (root : Option ℕ) : Type 0 where
  pub once : (n : ℕ) → times_listed n (numbers_met (views nodes) root) ≤ 1
  pub list : items_met (views nodes) root ≡ pairs_under (views nodes) root (finite.len nodes)
  pub ascends : Ascends cmp (items_met (views nodes) root)
