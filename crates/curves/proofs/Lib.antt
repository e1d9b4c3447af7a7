pub mod Rows
pub mod Rises
