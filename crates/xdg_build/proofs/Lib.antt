mod ListTurns
mod Cardinalities
pub mod Forms
mod Kept
mod Noded
mod Recorded
pub mod Dimensions
pub mod Named
pub mod TypeRows
mod Listed
pub mod Said
mod Taken
pub mod Right
pub mod EntryRows
pub mod Conditions
pub mod FeatureRows
pub mod Readings
pub mod TypedArguments
pub mod Told
pub mod Satisfied
pub mod Numbered
pub mod Admitted
pub mod Fitting
pub mod Keeping
pub mod Different
pub mod Planned
pub mod Lawful
pub mod Turns
mod Stocked
pub mod AtomLaws
pub mod Atomic
pub mod Compiled
pub mod Featured
pub mod FeatLaws
pub mod FormulaLaws
pub mod Numbers
pub mod Rightly
pub mod Standing
pub mod Used
pub mod Valued
