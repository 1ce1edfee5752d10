pub mod AimLemmas
pub mod NoWaitLemmas
pub mod PreadLemmas
pub mod RangeLemmas
pub mod ReadLemmas
pub mod SoFarLemmas
pub mod TryLemmas
pub mod WarmLemmas
