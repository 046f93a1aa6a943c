pub mod Files
pub mod Words
pub mod Answers
