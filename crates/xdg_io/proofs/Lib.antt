pub mod Counts
pub mod Written
pub mod Read
pub mod Shelves
pub mod Streams
pub mod Parts
