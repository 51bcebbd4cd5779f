pub mod Commanded
mod Safely
