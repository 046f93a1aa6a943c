pub mod NumberLemmas
pub mod ItemLemmas
pub mod PairLemmas
pub mod IndexLemmas
pub mod AnchorLemmas
pub mod ParentLemmas
pub mod WalkLemmas
pub mod RowLemmas
mod NodeLemmas
mod LinkLemmas
mod ListLemmas
pub mod PageLemmas
