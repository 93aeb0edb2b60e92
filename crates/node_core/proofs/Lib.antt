pub mod Beginning
pub mod ClientRules
pub mod Given
pub mod Heard
pub mod Keeping
pub mod Keys
pub mod Storing
