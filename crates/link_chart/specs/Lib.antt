pub mod Places
pub mod Drawn
pub mod Tables
pub mod Repriced
