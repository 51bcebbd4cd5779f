pub mod AloneProblem
pub mod Binary
pub mod Graphs
pub mod Removing
