pub mod Blocks
pub mod Orders
pub mod Rising
pub mod ScriptOrder
