pub mod Headline
pub mod Waiting
pub mod Laws
