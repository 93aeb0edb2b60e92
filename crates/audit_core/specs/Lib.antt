pub mod Stops
pub mod Texts
pub mod Told
pub mod Audits
pub mod Steps
