pub mod VerdictsText
pub mod OneText
pub mod Runs
pub mod Outcomes
