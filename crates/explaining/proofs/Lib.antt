mod DrawingLemmas
pub mod ServingLemmas
pub mod WordLemmas
