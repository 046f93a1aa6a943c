pub mod WordLemmas
pub mod LineLemmas
pub mod NameLemmas
pub mod EventLemmas
pub mod KeyLemmas
pub mod ReaderLemmas
pub mod EachLemmas
pub mod Rows
