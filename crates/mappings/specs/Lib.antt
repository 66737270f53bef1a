pub mod Deciding
pub mod Edits
pub mod Hashing
pub mod Held
pub mod Laws
