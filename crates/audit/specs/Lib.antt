pub mod Faults
pub mod Records
pub mod Children
pub mod Phases
pub mod Knowing
pub mod Texts
