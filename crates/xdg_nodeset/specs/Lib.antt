pub mod Nodes
pub mod Bits
pub mod Words
pub mod Tables
