pub mod Marks
pub mod Sights
pub mod Sections
pub mod Printing
pub mod Telling
pub mod Faults
pub mod Texts
