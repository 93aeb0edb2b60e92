pub mod Objects
pub mod Slices
pub mod Backups
