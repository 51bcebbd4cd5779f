pub mod Family
pub mod Ways
pub mod Steps
pub mod Untouched
