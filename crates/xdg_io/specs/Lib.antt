pub mod Files
pub mod Held
pub mod Left
pub mod Memory
pub mod Rose
pub mod Texts
