pub mod Ends
pub mod InUse
