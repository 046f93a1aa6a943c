pub mod Commands
pub mod Named
pub mod Options
pub mod Running
pub mod Serving
pub mod Words
