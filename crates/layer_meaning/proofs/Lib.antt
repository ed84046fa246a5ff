pub mod Mapped
pub mod Raised
pub mod Guarding
pub mod Returning
