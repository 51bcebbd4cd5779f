pub mod Reached
pub mod Links
pub mod Counting
pub mod Joining
pub mod Searching
pub mod Verdicts
pub mod Views
pub mod Graphs
