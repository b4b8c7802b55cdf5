pub mod Excluding
pub mod Turns
pub mod Timing
