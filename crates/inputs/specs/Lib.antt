pub mod Statuses
pub mod Reads
pub mod Numbers
pub mod Words
pub mod Failures
