mod Backwards
mod Bounded
mod Denoted
mod Dims
mod Exits
mod Fields
mod Followed
mod Framed
mod Joining
mod Made
mod Once
mod OneJoin
mod OneMeaning
mod Settled
mod Taken
mod Weighed
pub mod Adding
pub mod Bounds
pub mod Counting
pub mod Numbers
pub mod Only
pub mod Putting
pub mod Right
pub mod Stepping
pub mod Words
