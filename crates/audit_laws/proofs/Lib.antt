pub mod Spread
pub mod Followed
pub mod TellsAll
pub mod Shows
pub mod Clears
pub mod Own
