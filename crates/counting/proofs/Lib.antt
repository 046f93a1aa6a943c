mod DecimalLemmas
mod NumberLemmas
mod LineLemmas
mod MarkLemmas
mod PatternLemmas
mod PlacingLemmas
pub mod CourseLemmas
pub mod BookLemmas
pub mod CountLemmas
mod TellingLemmas
