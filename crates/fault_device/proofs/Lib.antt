pub mod Distinct
pub mod Runs
pub mod Serving
