pub mod Told
pub mod Network
