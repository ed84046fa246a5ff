pub mod Directions
pub mod Shape
pub mod Prices
pub mod Numbers
pub mod Theorems
