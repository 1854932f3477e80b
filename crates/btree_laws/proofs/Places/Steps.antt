-- At the end of splits or underflow fixes the followed address is at its place, and any address may be followed.
use Rattle.btree_laws.proofs.Common.{[], ℕ, List, Option, Address, NodeMap, IsRepaired, IsAddressed, HasPosition}
use Rattle.btree_laws.proofs.Places.OfTree.{whole-addressed, whole-on}

module _ (A : Type 0) (node_at : NodeMap A) (root : ℕ) (xs : List A) (expected : Option A) (a : Address)
    (place allocated bound : ℕ) where
  pub repaired-on : IsRepaired A node_at root xs expected a place allocated bound → HasPosition A node_at root expected a place
  repaired-on g = whole-on A node_at [] root xs expected a place g.node.focus.height g.node.focus.path g.node.focus.subtree
      g.node.focus.whole g.there

  -- after a repair the moved address has the same place
  pub repaired-addressed : IsRepaired A node_at root xs expected a place allocated bound → IsAddressed A node_at root xs expected a place
  repaired-addressed g =
      whole-addressed A node_at [] root xs expected a place g.node.focus.height g.node.focus.path g.node.focus.subtree
      g.node.focus.whole (repaired-on g)
