pub mod Room
pub mod Number
pub mod Members
pub mod Walk
