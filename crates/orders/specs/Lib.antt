-- What the contracts of this crate cite.
pub mod Order
pub mod Logs
pub mod Trees
pub mod Places
pub mod Runs
