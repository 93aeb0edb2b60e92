pub mod Schedules
pub mod Restored
pub mod Worked
