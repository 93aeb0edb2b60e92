pub mod Hearing
pub mod Parts
pub mod Soundness
pub mod State
