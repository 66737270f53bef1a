pub mod Deciding
pub mod Identifiers
pub mod Names
