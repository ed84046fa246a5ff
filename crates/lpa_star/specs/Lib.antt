pub mod Steps
pub mod Memory
pub mod Past
pub mod UpToDate
pub mod Closing
pub mod Outcomes
