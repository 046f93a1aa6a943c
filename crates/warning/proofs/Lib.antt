pub mod HeldLemmas
pub mod TargetLemmas
pub mod WayLemmas
