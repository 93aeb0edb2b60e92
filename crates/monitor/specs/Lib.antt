pub mod Tally
pub mod Moves
pub mod Watch
