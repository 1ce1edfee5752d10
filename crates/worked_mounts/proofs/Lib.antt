mod Gates
pub mod Going
pub mod Lending
mod Mapped
pub mod Parting
mod Queueing
pub mod Sizing
pub mod Starting
mod Storing
