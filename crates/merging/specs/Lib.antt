pub mod SpotLists
pub mod Slots
pub mod Merging
