pub mod Bodies
pub mod Points
pub mod Carried
pub mod Lookups
pub mod Inserting
pub mod Erasing
pub mod Laws
pub mod Steps
