pub mod Words
pub mod Holders
pub mod Logs
pub mod Found
pub mod Keeps
pub mod Meaning
pub mod Tries
pub mod Counted
