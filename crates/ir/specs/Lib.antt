pub mod Numbers
pub mod Stores
pub mod Calls
pub mod Steps
pub mod Linkings
pub mod Iterating
pub mod Tables
pub mod Erasings
