pub mod Lines
pub mod Inputs
pub mod Texts
pub mod Groups
pub mod Outcomes
pub mod Runs
