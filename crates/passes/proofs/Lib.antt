-- The lemmas of this crate.
pub mod Stepped
pub mod Seconds
pub mod Counting
pub mod FirstMet
pub mod Leaving
