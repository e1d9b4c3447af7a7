pub mod Rank
pub mod Times
pub mod Steps
pub mod Ends
