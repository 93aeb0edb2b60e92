pub mod Accounts
pub mod Words
pub mod Choices
pub mod Courses
