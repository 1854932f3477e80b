-- The definitions at small trees and at numbers, checked by computing. No other proof cites these files. `well_formed`
-- in TwoLevels: nine keys in two levels are a well formed tree, and each kind of address has the place counted by hand.
-- They hold the definitions to cases that a reader can check by hand: read each with the spec that it names.
-- Order: the tree of two levels, its positions, and the four lists of its addresses; then, at numbers, the new
-- addresses of each step and the nodes that splits need; and the order of the underflow fixes at small trees.
pub mod TwoLevels
pub mod TwoLevelPositions
pub mod TwoLevelAddresses
pub mod MovedAddresses
pub mod SplitNeed
pub mod SmallTrees
