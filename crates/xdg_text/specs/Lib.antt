pub mod Blocks
pub mod Constants
pub mod Examples
pub mod Lines
pub mod Ranges
pub mod Values
pub mod Words
