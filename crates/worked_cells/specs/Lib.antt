pub mod Claiming
pub mod Iovs
