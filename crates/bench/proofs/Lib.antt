pub mod Columns
mod Heaps
pub mod Ranked
mod Slots
pub mod Links
mod Pigeons
mod Past
mod Stays
mod Moves
mod Appends
mod Sifts
mod Leaves
pub mod Prices
