pub mod Verdicts
pub mod Watching
pub mod Newest
