pub mod Holds
pub mod Targets
pub mod Tells
pub mod Ways
