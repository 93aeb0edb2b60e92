pub mod FirstTaken
pub mod Carrying
