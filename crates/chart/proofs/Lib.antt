pub mod Pigeonhole
pub mod Least
pub mod Limits
pub mod Chains
pub mod Prices
pub mod Rising
