pub mod Sectors
pub mod Claims
pub mod Steps
pub mod Pool
pub mod History
pub mod Truth
pub mod Turns
pub mod Seats
