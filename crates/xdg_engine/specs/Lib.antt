pub mod CostRows
pub mod Bounding
pub mod Freeing
pub mod Standing
