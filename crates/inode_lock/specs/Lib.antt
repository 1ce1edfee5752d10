pub mod Word
pub mod Steps
pub mod View
pub mod Log
pub mod Exclusion
pub mod Tells
pub mod Calls
pub mod Growth
