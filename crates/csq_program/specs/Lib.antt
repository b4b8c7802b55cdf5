pub mod Jobs
pub mod Totals
pub mod Replays
pub mod Cuts
pub mod Parts
