pub mod Lengths
pub mod Moves
pub mod Answers
