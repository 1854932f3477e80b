-- A store of nodes after a `&mut` into it has ended.
use Rattle.std.specs.Prelude.{ℕ, Option}
use Rattle.std.specs.Borrow.{Fml, RattleType, MutBor}
use Rattle.btree_node.specs.declared.node.Node.{Node}
use Rattle.btree_node.specs.contracts.node.Node.{the_row as node_row}
use Rattle.btree_store.specs.Content.{lends_under}

-- once the borrow r ends, the node under the number is the last one that r pointed to; at `None` nothing changes
abbrev pub lends_node : (S K V : RattleType) → (S.Denot → ℕ → Node K.Denot V.Denot → S.Denot) → MutBor S.Denot → ℕ → Option (MutBor (Node K.Denot V.Denot)) → Fml
lends_node S K V written store id r = lends_under S (node_row K V) written store id r
