pub mod Lists
pub mod Found
pub mod Texts
pub mod Outcomes
