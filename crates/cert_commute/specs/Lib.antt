pub mod Commute
pub mod CommuteLaws
