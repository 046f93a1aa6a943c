pub mod FaultLemmas
pub mod SightLemmas
pub mod TellingLemmas
