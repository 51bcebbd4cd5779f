pub mod Slots
pub mod Edges
pub mod Every
