pub mod Imports
pub mod Holding
pub mod OnTheHeap
pub mod Called
pub mod Handling
pub mod Replaying
