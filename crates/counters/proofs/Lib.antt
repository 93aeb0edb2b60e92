pub mod NamesApart
pub mod Noting
pub mod Adding
pub mod CommittedRows
