pub mod Drawings
pub mod Serving
pub mod Words
