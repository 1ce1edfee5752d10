pub mod Places
pub mod Fronts
pub mod Freshes
mod Endings
mod StripeEnds
mod PoolEnds
pub mod Openings
pub mod Cuts
pub mod Trimmings
pub mod Layings
pub mod Placings
pub mod Lookups
pub mod LaidOut
pub mod DeviceContents
mod FileRuns
mod FileEndings
mod Lies
mod Weights
mod Unmountings
