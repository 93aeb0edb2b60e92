pub mod Amounts
pub mod Histories
pub mod Sums
