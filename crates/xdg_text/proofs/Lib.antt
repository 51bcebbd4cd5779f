pub mod Fitting
pub mod Pieces
pub mod Rests
pub mod Small
