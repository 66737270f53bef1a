-- The lemmas of this crate.
pub mod Skips
pub mod Breaks
pub mod Trees
pub mod Rows
pub mod Names
pub mod Makings
pub mod NewTables
pub mod Lists
pub mod Built
