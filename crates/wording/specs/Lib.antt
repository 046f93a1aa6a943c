pub mod Counted
pub mod Names
pub mod Proses
