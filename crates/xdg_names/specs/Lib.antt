pub mod First
pub mod Leads
pub mod Closing
pub mod Walks
pub mod Texts
