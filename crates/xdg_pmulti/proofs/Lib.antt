pub mod Forbidding
pub mod Aiming
pub mod Blocked
pub mod Closing
pub mod Swept
