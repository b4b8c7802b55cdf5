pub mod Stages
pub mod Times
pub mod Requests
pub mod Refusals
pub mod Parts
pub mod Laws
