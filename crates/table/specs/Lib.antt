pub mod Maps
pub mod Search
pub mod Shift
