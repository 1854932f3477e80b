-- The place of an address, and the positions of all addresses in order. Main theorem: `one_place-well` in OnePlace, an
-- address of a well formed tree has one place (`has_place`: it has one). `positions-addressed` and `well-on` in OfTree:
-- a position of the tree and `IsPlace` agree, so a step that keeps positions keeps places.
-- Order: lists of positions (Lists, Untouched, OneList), places as the specs say them (HasPlace, SamePlace, OnePlace),
-- places by a focus (NodePlaces, TreePlaces), the two together (OfTree, Words), from a node to its children, along a
-- leaf and to the parent (ChildPlaces, InNode), and single steps (Steps, Backs).
pub mod Lists
pub mod Untouched
pub mod OneList
pub mod HasPlace
pub mod SamePlace
pub mod OnePlace
pub mod NodePlaces
pub mod TreePlaces
pub mod OfTree
pub mod Words
pub mod ChildPlaces
pub mod InNode
pub mod Steps
pub mod Backs
