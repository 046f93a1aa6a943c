mod ReadLemmas
mod NumberLemmas
pub mod PutLemmas
pub mod MeaningLemmas
pub mod RowLemmas
pub mod RequestLemmas
