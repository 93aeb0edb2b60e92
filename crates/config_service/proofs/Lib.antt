mod Lookups
mod Growth
mod FirstIndex
pub mod SetupFirsts
