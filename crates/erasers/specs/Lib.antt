pub mod Erasings
