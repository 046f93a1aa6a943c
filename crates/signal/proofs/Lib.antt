pub mod FieldLemmas
pub mod QueueLemmas
pub mod SetLemmas
