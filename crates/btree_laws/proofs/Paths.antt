-- A tree seen from one of its nodes: the path above the focus and the subtree at it. Main theorem: `node-at` in
-- FromRoot, a well formed tree has a focus at each of its nodes, and the converse `rooted-node`; a tree off by one has
-- one at that node (`off-at`, `rooted-off`). Loops that go upward or downward keep a focus; these files move it.
-- Order: one frame filled with a child (Frames), a step up and down (Focus, UnsizedFocus), parents and levels (Parents,
-- Levels, Used), from the root and back (FromRoot), and a child or sibling as the focus (ChildFocus to SiblingNumbers).
pub mod Frames
pub mod Focus
pub mod UnsizedFocus
pub mod Parents
pub mod Levels
pub mod Used
pub mod FromRoot
pub mod ChildFocus
pub mod Siblings
pub mod SiblingNumbers
