mod Weighing
mod TakingLowest
pub mod Removing
pub mod Sizes
mod States
pub mod Keeping
mod Moving
mod Closing
mod Parting
mod Starting
mod Standing
