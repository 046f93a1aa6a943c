pub mod Reports
pub mod Words
pub mod Serving
