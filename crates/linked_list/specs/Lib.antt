-- What the contracts of this crate cite.
pub mod Links
pub mod Edits
pub mod Gaps
pub mod Spans
pub mod Draws
