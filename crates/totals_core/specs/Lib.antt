pub mod Holdings
pub mod Progressing
pub mod Telling
pub mod Totalling
