pub mod Words
pub mod Guesses
pub mod Lines
pub mod Sinks
