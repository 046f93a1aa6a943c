pub mod LineLemmas
pub mod LimitLemmas
