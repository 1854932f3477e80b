-- The machine behind the program. A file cites those before it. Main theorems: Moves and Edits, the steps of a session; Lines and Serving, a text
-- answered line by line.
pub mod Common
pub mod Runs
pub mod Steps
pub mod Moves
pub mod Edits
pub mod CursorMoves
pub mod Words
pub mod Numerals
pub mod Sayings
pub mod Digits
pub mod Lines
pub mod Serving
pub mod Printing
pub mod Room
pub mod Shapes
pub mod ArgumentLemmas
