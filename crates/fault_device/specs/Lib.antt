pub mod Judging
pub mod LaneView
pub mod Listing
pub mod Opening
pub mod Ran
pub mod Telling
pub mod Transfer
