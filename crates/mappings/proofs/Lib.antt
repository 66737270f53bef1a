pub mod Counting
pub mod Holding
mod Keys
pub mod Looking
pub mod Reading
