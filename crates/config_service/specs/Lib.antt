pub mod Comparing
pub mod Firsts
pub mod Index
pub mod Marks
