pub mod Steadiness
pub mod Steps
pub mod Parts
pub mod Laws
pub mod Outcome
