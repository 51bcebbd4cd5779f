pub mod Numbering
pub mod Lengths
pub mod Texts
pub mod Tallies
pub mod Tallying
pub mod OneCount
pub mod Sound
mod Branching
pub mod SearchLeaves
pub mod Drilled
