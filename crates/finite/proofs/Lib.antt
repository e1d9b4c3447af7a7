pub mod Sums
pub mod Greatest
pub mod Some
pub mod Lists
pub mod Walks
