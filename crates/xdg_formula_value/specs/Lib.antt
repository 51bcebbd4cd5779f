pub mod Rows
pub mod Pairs
pub mod Filling
pub mod ClaimKinds
pub mod Lost
pub mod Standing
pub mod Several
