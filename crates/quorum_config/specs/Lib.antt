pub mod Texts
pub mod Readings
pub mod Runs
pub mod Walks
pub mod Standing
