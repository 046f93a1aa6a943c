pub mod Names
pub mod Lines
pub mod Sets
pub mod Keys
pub mod Letters
pub mod Texts
pub mod Serving
