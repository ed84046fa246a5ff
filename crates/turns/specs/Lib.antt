pub mod State
pub mod Turns
pub mod Turned
pub mod History
pub mod Promises
pub mod Telling
pub mod Dependence
