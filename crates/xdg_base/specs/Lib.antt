pub mod Faults
pub mod Places
pub mod Told
pub mod Texts
pub mod Spelling
pub mod formers
