pub mod ReplayLemmas
pub mod Apart
pub mod Keeping
pub mod Turning
pub mod FirstTruth
