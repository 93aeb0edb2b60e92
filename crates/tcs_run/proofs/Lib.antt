pub mod Naming
pub mod Restoring
pub mod Statuses
pub mod Answered
