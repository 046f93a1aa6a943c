pub mod RunLemmas
pub mod EventLemmas
pub mod HeadlineLemmas
pub mod BurstLemmas
pub mod RecheckedLemmas
pub mod CountLemmas
pub mod BlockLemmas
pub mod AgreeLemmas
