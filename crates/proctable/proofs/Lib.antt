pub mod RecordLemmas
pub mod SlabLemmas
