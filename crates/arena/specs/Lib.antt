pub mod Pools
pub mod Shelves
pub mod Lending
pub mod Recorded
