-- Nodes that overflow, and the splits from a node upward. Main theorem: the step in Upward, from a node that may have
-- an item too many: `overflow-done` if it has not; else it is split, and the parent is next (`to-parent`) or the root
-- grows (`new-root`). The loop `split_upward` of btree_raw goes through these cases.
-- Closing law: `repaired-well` in Insertion, cited by btree_ext. When the splits after an insertion have ended, in
-- `IsRepaired`, the tree is well formed and has the pair at its place. (After a rebalancing it is `fixed-well` in
-- Underflow/OffByOne.)
-- Order: a node in two parts (TwoParts), the tree with them (Trees), where its addresses go (CutPositions,
-- NodeAddresses, KeptPositions, TreeAddresses), the nodes needed (Need) and their greatest number (Room), the step
-- (Upward), and insertions (Claims to InsertionAddresses).
pub mod TwoParts
pub mod Trees
pub mod CutPositions
pub mod NodeAddresses
pub mod KeptPositions
pub mod TreeAddresses
pub mod Need
pub mod Room
pub mod Upward
pub mod Claims
pub mod Insertion
pub mod InsertionAddresses
