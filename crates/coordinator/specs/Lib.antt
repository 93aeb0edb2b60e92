pub mod Acknowledged
pub mod InOrder
pub mod OpenCases
pub mod State
