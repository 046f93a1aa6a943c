pub mod SortedLemmas
