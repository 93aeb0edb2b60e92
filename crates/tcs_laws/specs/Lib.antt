pub mod Certification
pub mod Votes
pub mod Writing
pub mod Laws
pub mod Rows
pub mod Sight
