pub mod PartAmounts
pub mod SumsWithin
pub mod NodeTotals
pub mod Covered
pub mod NodeHasAll
