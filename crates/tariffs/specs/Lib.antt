pub mod Meaning
pub mod Joined
pub mod Cue
pub mod Table
