pub mod Forests
pub mod Calls
pub mod Linkings
pub mod Erasings
pub mod Placings
pub mod Iters
pub mod Lefts
