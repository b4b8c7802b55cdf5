pub mod Singles
pub mod Moves
pub mod Ledgers
pub mod Refusals
pub mod Calls
pub mod Fresh
