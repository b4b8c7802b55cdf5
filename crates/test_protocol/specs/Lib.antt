pub mod Excluded
pub mod Listed
pub mod Stages
pub mod Untimely
