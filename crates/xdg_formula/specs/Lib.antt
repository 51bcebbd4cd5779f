pub mod Rules
pub mod Texts
pub mod Words
pub mod Written
pub mod Answers
pub mod Formulas
pub mod Tables
