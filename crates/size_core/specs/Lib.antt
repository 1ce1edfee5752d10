pub mod ClaimsView
pub mod SizesView
pub mod History
pub mod SizeTruth
pub mod SizeTurns
