pub mod Comparing
pub mod Comparisons
pub mod Explanations
pub mod Pasts
pub mod Statuses
