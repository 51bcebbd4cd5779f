pub mod Boxing
pub mod OnePrint
pub mod Reported
pub mod FoundSoFar
pub mod Ending
mod Slotted
mod Searched
pub mod Reaching
pub mod Together
mod Collecting
pub mod Turning
pub mod Shareable
