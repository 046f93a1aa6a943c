pub mod ProseLemmas
