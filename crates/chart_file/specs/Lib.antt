pub mod Records
pub mod File
pub mod Checks
pub mod Rules
