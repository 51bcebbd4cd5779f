pub mod Bared
pub mod Keywords
pub mod Mapped
