pub mod Ballots
pub mod Rules
pub mod World
pub mod Theorem
