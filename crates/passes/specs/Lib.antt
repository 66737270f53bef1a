pub mod Firsts
pub mod Moves
pub mod Numberings
pub mod Subtrees
pub mod Terminators
