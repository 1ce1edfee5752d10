pub mod Begins
pub mod MapBlocks
pub mod MapSteps
pub mod SpaceEvents
pub mod Opens
pub mod Ready
pub mod Layouts
pub mod Seats
pub mod Loans
pub mod Firsts
pub mod Tries
mod Telling
mod PoolTells
mod LaneTells
pub mod SizeSeats
pub mod Through
pub mod Splitting
pub mod SplitPasses
pub mod JoinPasses
pub mod ActLemmas
pub mod Starts
pub mod Loaned
pub mod ShelfLists
pub mod CrossingRules
pub mod BioCrossing
pub mod MountCrossing
pub mod Unmounting
pub mod KeptNumbers
pub mod CallLemmas
pub mod PassActs
pub mod CallEnds
