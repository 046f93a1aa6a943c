pub mod Numbers
pub mod GapVecs
pub mod Indexes
pub mod Rows
pub mod Lists
pub mod Pages
