pub mod Stages
pub mod Soundness
