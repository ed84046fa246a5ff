mod Made
pub mod Ordered
