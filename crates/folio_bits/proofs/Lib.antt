pub mod Totals
pub mod Keeps
pub mod Meaning
pub mod Runs
pub mod Words
pub mod Folios
