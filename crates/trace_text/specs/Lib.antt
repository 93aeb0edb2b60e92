pub mod Texts
pub mod Versions
pub mod Words
pub mod Stages
pub mod Lines
pub mod Readings
pub mod Traces
