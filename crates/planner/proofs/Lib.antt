pub mod FirstTests
pub mod Accepted
pub mod Ended
pub mod Shown
