pub mod Counts
pub mod Outcomes
pub mod Standing
pub mod Stops
pub mod Texts
