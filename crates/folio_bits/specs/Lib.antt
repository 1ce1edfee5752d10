pub mod BlockSets
pub mod Steps
pub mod Counting
pub mod Views
