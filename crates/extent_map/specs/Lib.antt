pub mod BlockKinds
pub mod Edits
pub mod Expansion
pub mod Keeping
pub mod Longest
pub mod Merged
pub mod Sorts
pub mod Splicing
