pub mod Columns
pub mod Stored
pub mod Orders
pub mod Oracles
pub mod NamedJournals
pub mod WideOperations
pub mod Optima
pub mod inside
