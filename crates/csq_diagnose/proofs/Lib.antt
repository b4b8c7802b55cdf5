pub mod Imports
mod Fitting
mod Beginning
mod Following
mod OneOf
mod Printed
mod Walking
mod Nearing
pub mod Reporting
pub mod Reported
mod Drawings
mod Malforming
