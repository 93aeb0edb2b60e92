pub mod Apart
pub mod Arriving
pub mod Sent
pub mod Keeping
