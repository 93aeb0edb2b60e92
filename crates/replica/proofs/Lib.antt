pub mod Marking
pub mod Standing
pub mod PrepareRule
pub mod PieceRule
