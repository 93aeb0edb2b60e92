pub mod Replays
pub mod Standing
pub mod Steps
pub mod Trace
