mod ClassCount
mod OneMeaning
pub mod Leaving
pub mod Trees
pub mod Meaning
mod Settling
pub mod Writing
pub mod Wording
pub mod Taking
pub mod Sentencing
pub mod Analysing
pub mod Telling
pub mod RulesLoaded
pub mod Given
pub mod Ruling
pub mod Following
