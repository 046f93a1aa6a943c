mod ComparisonLemmas
pub mod ExplanationLemmas
mod PastLemmas
mod ServingLemmas
