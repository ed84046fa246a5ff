pub mod Heights
pub mod Guarded
pub mod Returned
pub mod Theorems
