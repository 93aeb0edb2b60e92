pub mod Setup
pub mod Sights
pub mod Runs
