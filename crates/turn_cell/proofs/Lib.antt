pub mod Sums
pub mod Beginnings
pub mod Stakes
pub mod AfterTurns
mod Fitting
mod Gate
mod Leaving
mod Turning
mod Parting
mod Looking
mod Ending
