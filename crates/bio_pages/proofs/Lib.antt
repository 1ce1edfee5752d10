mod ShelfSums
mod ShelfKeeps
mod ShelfMoves
mod ShelfCalls
mod QueueKeeps
pub mod Growing
mod Twice
mod Listed
mod Lending
mod WholeList
