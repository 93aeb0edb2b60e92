pub mod Candidates
pub mod Keeping
pub mod Slots
pub mod Change
