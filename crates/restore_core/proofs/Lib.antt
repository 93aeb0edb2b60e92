pub mod Answering
pub mod Objects
pub mod Stepping
pub mod Ending
pub mod Schedules
pub mod PlainLines
pub mod Files
pub mod BadLines
