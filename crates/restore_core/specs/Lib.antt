pub mod Stops
pub mod Files
pub mod Printed
pub mod Restores
pub mod Steps
