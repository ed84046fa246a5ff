pub mod Faults
pub mod Stages
pub mod Answers
