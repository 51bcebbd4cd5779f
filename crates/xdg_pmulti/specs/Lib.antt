pub mod Family
pub mod Aims
