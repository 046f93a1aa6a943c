pub mod Rows
pub mod Tallies
pub mod Bags
pub mod Rings
pub mod Places
