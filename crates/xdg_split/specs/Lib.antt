pub mod Printed
pub mod Written
pub mod Asked
pub mod Answers
pub mod Splits
pub mod Finds
pub mod Slots
