-- The lemmas of this crate.
pub mod Lists
pub mod Relist
pub mod Relinks
pub mod Spots
pub mod Sounds
pub mod Laws
pub mod Steps
pub mod Draws
pub mod Grows
