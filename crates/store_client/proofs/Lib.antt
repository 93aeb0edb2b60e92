pub mod Names
pub mod Reading
pub mod Putting
pub mod Committing
