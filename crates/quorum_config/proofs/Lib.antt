pub mod NumberLists
pub mod Digits
pub mod ShortNumbers
pub mod MessageLines
pub mod Steps
pub mod RunTexts
pub mod Turning
pub mod Finals
