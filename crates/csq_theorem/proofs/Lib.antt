pub mod Executions
pub mod Sequential
pub mod Correct
pub mod Traces
pub mod Runs
pub mod Waiting
