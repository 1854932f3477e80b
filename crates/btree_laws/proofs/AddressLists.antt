-- The four lists of a tree's addresses: occupied ones, back ones in leaves, all back ones, all front ones. Main
-- theorem: `addresses-formed` in Whole, a well formed tree has its addresses in these lists, in order (`addresses-off`:
-- off by one). Navigation by address and cursors cite it.
-- Order: lists as what is kept of the positions (Kept to KeptOrder), the laws of each list (ItemAddresses to
-- FrontAddresses), the next address (Ends, Neighbours, BackVisits, FrontVisits, Next), all laws (Whole), end leaves.
pub mod Kept
pub mod OfPositions
pub mod KeptOnce
pub mod OnePlaceEach
pub mod KeptOrder
pub mod ItemAddresses
pub mod LeafBacks
pub mod BackAddresses
pub mod FrontAddresses
pub mod Ends
pub mod Neighbours
pub mod BackVisits
pub mod FrontVisits
pub mod Next
pub mod Whole
pub mod LeafEnds
