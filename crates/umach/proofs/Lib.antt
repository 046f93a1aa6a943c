pub mod BurstLemmas
pub mod ByteLemmas
pub mod MemoryLemmas
