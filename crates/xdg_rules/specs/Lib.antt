pub mod Remaining
pub mod Worths
pub mod Bounds
pub mod Rules
pub mod Boxed
pub mod Laws
pub mod WorthLaws
