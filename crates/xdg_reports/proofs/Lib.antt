pub mod Verdicted
pub mod One
