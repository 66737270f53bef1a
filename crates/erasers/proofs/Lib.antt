pub mod Sequences
pub mod Counts
pub mod Ends
pub mod Spares
pub mod Takes
pub mod Frees
pub mod Turns
