pub mod SameTxn
pub mod Ascending
pub mod Putting
pub mod Splitting
pub mod Marking
pub mod Indexing
pub mod Voting
pub mod Changing
