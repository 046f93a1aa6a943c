pub mod FamilyLemmas
pub mod SizeLemmas
pub mod ScheduledLemmas
mod AdvanceLemmas
pub mod WalkLemmas
pub mod Rows
mod LineLemmas
mod NumberLemmas
mod SayLemmas
pub mod AddLemmas
