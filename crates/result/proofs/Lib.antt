mod Numbers
pub mod Rows
