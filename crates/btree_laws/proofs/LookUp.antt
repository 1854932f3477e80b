-- Look-up by key, and a walk in order. Main theorem: `search-hit` and `search-miss` in Ends, a search that ends at an
-- item or in a leaf has the key's place in the list; `search-down` in Descent, else it goes on at one child. The loops
-- of btree_find keep `IsSearching` by `search-start` and `search-down`; those of btree_walk keep rows by Walk.
-- Order: a key in an ascending list (KeyInList), the step from a node to its child (Descent), the end of a search
-- (Ends), and what is left of a walk, from a leaf to the next item above it (Walk).
pub mod KeyInList
pub mod Descent
pub mod Ends
pub mod Walk
