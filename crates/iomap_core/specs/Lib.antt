pub mod Mappings
pub mod IterView
