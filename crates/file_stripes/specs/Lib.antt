pub mod Ends
pub mod Files
pub mod Kinds
pub mod Runs
pub mod Stripes
pub mod Taking
pub mod Worked
