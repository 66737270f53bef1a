pub mod Numbering
pub mod Rowing
pub mod Dangling
pub mod Tabling
pub mod Erased
