pub mod LineLemmas
pub mod DigitLemmas
pub mod ToldLemmas
pub mod TextLemmas
pub mod NameLemmas
pub mod BlankLemmas
pub mod KeyLemmas
