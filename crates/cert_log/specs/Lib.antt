pub mod Fencing
pub mod Places
pub mod Preparing
pub mod Standing
