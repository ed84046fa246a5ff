pub mod Lowest
pub mod Ruled
pub mod Limits
pub mod Lawful
pub mod Drawn
pub mod Written
