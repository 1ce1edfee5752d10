pub mod Preads
pub mod ReadCalls
pub mod Tries
pub mod Warms
