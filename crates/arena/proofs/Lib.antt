pub mod Pooling
pub mod Filling
pub mod Shelving
