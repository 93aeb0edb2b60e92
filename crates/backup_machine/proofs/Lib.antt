pub mod Names
pub mod Cutting
pub mod Slicing
pub mod Keeping
