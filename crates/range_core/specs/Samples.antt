-- What a turn that takes a sample does.
use Rattle.std.specs.Prelude.{◌≡◌, ℕ, ◌<◌}
use Rattle.range_core.specs.ClaimsView.{ClaimsView}
use Rattle.range_core.specs.Lookups.{sample_at}
use Rattle.range_core.specs.RangeView.{LiesAt, RangeView}
use Rattle.range_core.specs.declared.entry.Entry.{Entry}
use Rattle.range_core.specs.declared.entry.Event.TheVariants as events
use Rattle.range_core.specs.declared.entry.Outcome.TheVariants.{Sampled}
use Rattle.range_core.specs.declared.range.sample.SampleRun.{SampleRun}
use Rattle.range_core.specs.declared.sample.Sample.{Sample}

-- the entry of a sample
abbrev pub sample_entry : ClaimsView → SampleRun → Sample → Entry
sample_entry claims look sample = record { caller = claims.caller; event = events.Sample look.block look.most; outcome = Sampled sample }

-- What is looked at: at least one block, from one of the range on
pub record MaySample (r : RangeView) (b most : ℕ) : Type 0 where
  pub lies : LiesAt r b 1
  pub some : 0 < most

-- a sample has at least one block, and they are blocks of the range
abbrev pub SampleLies : RangeView → Sample → Type 0
SampleLies r sample = LiesAt r sample.extent.block sample.extent.length

-- The turn gave the present sample, and nothing changed
pub record GaveSample (opening : RangeView) (look later : SampleRun) (before after : RangeView) (claims left : ClaimsView) (sample : Sample) (entry : Entry) : Type 0 where
  pub change : later ≡ look
  pub value : after ≡ before
  pub claims_are : left ≡ claims
  pub sample_is : sample ≡ sample_at before look.block look.most
  pub entry_is : entry ≡ sample_entry claims look sample
  pub lies : SampleLies opening sample
