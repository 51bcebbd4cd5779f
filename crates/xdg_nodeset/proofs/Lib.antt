pub mod Masks
pub mod Standing
pub mod Joined
pub mod TableSets
pub mod Meetings
pub mod Closures
