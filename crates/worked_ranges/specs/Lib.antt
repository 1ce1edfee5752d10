pub mod SmallEnds
pub mod SmallRanges
