pub mod Running
pub mod ShelfRule
pub mod ShelfSteps
pub mod Shelf
pub mod QueueRule
pub mod Queue
pub mod Lists
