pub mod Updates
pub mod Precedence
pub mod BestWrites
pub mod Slots
pub mod Marking
pub mod BestRead
pub mod Undecided
