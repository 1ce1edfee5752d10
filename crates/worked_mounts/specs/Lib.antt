pub mod Alone
pub mod Begins
pub mod Buffers
pub mod Others
pub mod Passes
pub mod Shares
