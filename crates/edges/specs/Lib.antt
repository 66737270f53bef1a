-- What the contract of this crate cites.
pub mod Examples
pub mod Built
pub mod Names
pub mod NewTables
pub mod EdgeCases
