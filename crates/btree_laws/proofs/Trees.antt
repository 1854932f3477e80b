-- Facts of a tree by itself, without a focus. Main theorem: `represented-is` in Represented, the list that nodes
-- represent is a function of them; so a state has the list of its tree (`is-tree` in States). Density has the bounds:
-- `height-low` (at most 32 levels) and `nodes-few` (3 times the nodes are at most the items plus two).
-- Order: the list (Represented, OneLeaf), nodes as one value (Subtrees), counts of numbers and items (Numbers,
-- Sizes), bounds (Heights, Density), then stores and states (Stores, States), and places in the list (SubtreePlaces,
-- ValidPlaces).
pub mod Represented
pub mod OneLeaf
pub mod Subtrees
pub mod Numbers
pub mod Sizes
pub mod Heights
pub mod Density
pub mod Stores
pub mod States
pub mod SubtreePlaces
pub mod ValidPlaces
