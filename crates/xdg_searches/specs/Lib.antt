pub mod Generated
pub mod Broken
pub mod Counted
pub mod Branched
pub mod Written
pub mod Laws
pub mod Runs
pub mod Outcomes
