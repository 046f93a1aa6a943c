pub mod ActionFields
pub mod SignalTables
pub mod GrantedPools
