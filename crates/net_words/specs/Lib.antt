pub mod Definition
pub mod Modes
pub mod Readings
pub mod Refusals
pub mod Requests
