pub mod Serial
pub mod SerialLaws
