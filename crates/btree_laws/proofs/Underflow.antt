-- Nodes that underflow, and their fixes from a node upward. Main theorem: `adjacent-steps` in Adjacent, for two
-- siblings, one of which underflows: a rotation ends the fix, and a merge makes the parent the next node. Upward has
-- the cases of one node (no underflow, a parent, the root), which the loop `fix_underflow_upward` of btree_raw goes
-- through.
-- Closing law: `fixed-well` in OffByOne, cited by `rebalance` of btree_raw. When the steps have ended, in `IsRepaired`,
-- the tree is well formed with the same list (`emptied-well`: it is empty).
-- Order: siblings and their items (Items), what steps write (Writes, Calls), where addresses go (SiblingRows to
-- TreeAddresses), each step (Rotations, Merges, ShrunkRoot, Adjacent), the fix (Upward, Order), and trees off by one.
pub mod Items
pub mod Writes
pub mod Calls
pub mod SiblingRows
pub mod SiblingAddresses
pub mod TreeAddresses
pub mod Rotations
pub mod Merges
pub mod ShrunkRoot
pub mod Adjacent
pub mod Upward
pub mod Order
pub mod OffByOne
