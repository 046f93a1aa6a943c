pub mod Lines
pub mod Limits
