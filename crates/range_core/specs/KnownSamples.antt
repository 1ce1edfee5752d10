-- What an earlier sample tells of a range.
use Rattle.std.specs.Prelude.{◌≡◌, ℕ, ◌+◌, ◌-◌, ◌%◌, ◌<◌, ◌≤◌, Some, List, length, slice_get}
use Rattle.iob_base.specs.declared.TheConstants.{STRIPE}
use Rattle.io_model.specs.Kinds.{kind_after}
use Rattle.io_model.specs.declared.file.Extent.{Extent}
use Rattle.range_core.specs.RangeView.{RangeView}
use Rattle.range_core.specs.declared.cell.Cell.{Cell}
use Rattle.range_core.specs.declared.entry.Entry.{Entry}
use Rattle.range_core.specs.declared.entry.Outcome.TheVariants.{Sampled}
use Rattle.range_core.specs.declared.sample.Sample.{Sample}

-- an entry of these gave the sample
pub record WasGiven (sample : Sample) (entries : List Entry) : Type 0 where
  pub place : ℕ
  pub entry : Entry
  pub here : slice_get entries place ≡ Some entry
  pub gave : entry.outcome ≡ Sampled sample

-- the blocks of an extent have the kinds that it says, they are blocks of the range, and they lie in one stripe
pub record IsExtentOf (r : RangeView) (extent : Extent) : Type 0 where
  pub begins : r.first ≤ extent.block
  pub inside : 0 < extent.length → extent.block - r.first + extent.length ≤ length r.cells
  pub stripe : extent.length ≤ STRIPE - extent.block % STRIPE
  pub kinds : (k : ℕ) (c : Cell) → k < extent.length → slice_get r.cells (extent.block - r.first + k) ≡ Some c → c.kind ≡ kind_after extent.kind k

-- while the cookie of a sample is the range's, its extent is one of the range
abbrev pub IsKnown : RangeView → Sample → Type 0
IsKnown r sample = sample.cookie ≡ r.cookie → IsExtentOf r sample.extent
