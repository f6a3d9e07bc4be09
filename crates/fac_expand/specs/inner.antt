-- What only the contracts of inner functions cite.
pub mod Stacks
pub mod Calls
pub mod Shuffling
pub mod Drafts
pub mod Changes
pub mod Steps
pub mod Loops
pub mod PieceCode
pub mod Pieces
pub mod Makings
pub mod DirectPlaces
pub mod Bodies
pub mod Tails
pub mod DirectImages
pub mod Backward
