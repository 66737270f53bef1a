pub mod Holding
mod Numbering
pub mod Standing
