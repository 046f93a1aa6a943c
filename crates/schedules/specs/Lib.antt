pub mod Families
pub mod Schedules
pub mod Walks
pub mod EventLines
