-- A tree seen from one of its nodes, as a zipper: the path above the focus (`Path`, a list of `Frame`s, one for each
-- node above) and the subtree at the focus (`Subtree`). `IsFocus` and `IsUnsizedFocus` say that a map of nodes holds
-- the two and that they represent a list; `Positions` are the addresses of such a tree in order. These are tools of
-- proofs and of what loops keep; what public contracts cite is in specs/*.antt.
-- Order: Subtree, Path, Focus, Node; then what is read off a focus (Pair, Positions, TreePositions, Strain, Need); then
-- the states of loops: Search (a look-up), Overflow (splits upward), Underflow (underflow fixes upward).
pub mod Subtree
pub mod Path
pub mod Focus
pub mod Node
pub mod Pair
pub mod Positions
pub mod TreePositions
pub mod Strain
pub mod Need
pub mod Search
pub mod Overflow
pub mod Underflow
