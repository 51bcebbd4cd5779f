pub mod Answers
pub mod Commands
pub mod Found
pub mod Items
pub mod Readings
pub mod Syntax
pub mod Verbs
