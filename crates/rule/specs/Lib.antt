pub mod Ready
pub mod Table
pub mod Sweep
pub mod Over
