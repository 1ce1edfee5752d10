pub mod Stakes
pub mod Laws
pub mod Views
pub mod Rule
pub mod Steps
pub mod Seats
