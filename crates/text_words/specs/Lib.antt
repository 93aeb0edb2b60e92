pub mod HexWords
pub mod PayloadText
pub mod Words
pub mod Texts
pub mod PayloadWords
