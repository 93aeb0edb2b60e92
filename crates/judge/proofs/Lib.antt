pub mod Failing
pub mod Firsts
pub mod Keeping
pub mod Exact
pub mod Kept
pub mod InWay
pub mod Legal
