pub mod Family
pub mod Places
pub mod Untouched
