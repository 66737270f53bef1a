mod Keys
pub mod Texts
