pub mod Meaning
pub mod Limits
pub mod Late
pub mod Rows
pub mod Steps
