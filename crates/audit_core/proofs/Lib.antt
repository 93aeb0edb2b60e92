pub mod Lines
pub mod Answering
pub mod Differences
pub mod Pieces
pub mod Stepping
pub mod Ending
