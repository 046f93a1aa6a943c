pub mod GroupCounts
pub mod IndexedTables
pub mod Indexes
