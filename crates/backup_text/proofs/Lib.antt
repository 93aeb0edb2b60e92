pub mod Steps
pub mod Cuts
pub mod PlainWords
pub mod LineWords
pub mod Answering
