pub mod Order
pub mod Smaller
pub mod Sums
pub mod Keys
pub mod Lexicographic
pub mod Numbers
