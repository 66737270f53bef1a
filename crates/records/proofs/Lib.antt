pub mod Regions
pub mod Made
pub mod Sums
pub mod Rests
pub mod Comparing
