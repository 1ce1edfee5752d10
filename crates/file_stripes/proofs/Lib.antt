pub mod EndLemmas
pub mod KindLemmas
pub mod MergedLemmas
pub mod PlacedLemmas
pub mod RunLemmas
pub mod RunsLemmas
pub mod StripeLemmas
pub mod TakingLemmas
