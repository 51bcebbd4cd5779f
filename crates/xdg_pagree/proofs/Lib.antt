pub mod Sweeping
pub mod AtPlaces
pub mod AtNodes
pub mod Bringing
pub mod Closing
pub mod Keeping
pub mod Others
