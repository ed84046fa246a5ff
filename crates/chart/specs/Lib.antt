pub mod Meaning
pub mod Questions
pub mod Refusals
pub mod Lawful
pub mod Routes
pub mod Limits
pub mod Links
