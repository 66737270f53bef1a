pub mod Held
pub mod Numbering
pub mod Places
