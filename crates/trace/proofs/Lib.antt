pub mod Nearest
pub mod Walks
pub mod Laid
pub mod Writes
