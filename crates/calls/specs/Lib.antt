pub mod Counts
pub mod Outcomes
pub mod Access
pub mod Terminals
