-- What a range is looked up for.
use Rattle.std.specs.Prelude.{◌≡◌, ℕ, ◌-◌, ◌%◌, ◌≤◌, min, List, [], ◌∷◌}
use Rattle.iob_base.specs.declared.TheConstants.{STRIPE}
use Rattle.io_model.specs.declared.file.Extent.{Extent}
use Rattle.io_model.specs.declared.file.Kind.{Kind}
use Rattle.io_model.specs.declared.file.Kind.TheVariants.{Hole}
use Rattle.range_core.specs.RangeView.{RangeView, cells_from}
use Rattle.range_core.specs.Runs.{run_length}
use Rattle.range_core.specs.declared.cell.Cell.{Cell}
use Rattle.range_core.specs.declared.entry.Entry.{Entry}
use Rattle.range_core.specs.declared.entry.Event.{Event}
use Rattle.range_core.specs.declared.entry.Event.TheVariants as events
use Rattle.range_core.specs.declared.entry.Outcome.{Outcome}
use Rattle.range_core.specs.declared.entry.Outcome.TheVariants.{Sampled}
use Rattle.range_core.specs.declared.sample.Sample.{Sample}

-- the kind of the first of these blocks
abbrev pub first_kind : List Cell → Kind
first_kind [] = Hole
first_kind (c ∷ cells) = c.kind

-- the longest extent from a block on, of at most so many blocks, that crosses no multiple of a stripe
abbrev pub extent_at : RangeView → ℕ → ℕ → Extent
extent_at r b most =
    record { block = b; length = run_length (cells_from r b) (min most (STRIPE - b % STRIPE)); kind = first_kind (cells_from r b) }

-- the sample of a block
abbrev pub sample_at : RangeView → ℕ → ℕ → Sample
sample_at r b most = record { cookie = r.cookie; errors = r.errors; extent = extent_at r b most }

-- how many blocks a sample was asked for: what the event said, or what was reserved
abbrev pub most_asked : Event → Sample → ℕ
most_asked (events.Sample block most) sample = most
most_asked _ sample = sample.extent.length

-- a sample is of a block of the range, and of a cookie that was; where that is the present one, it is of the present extent
pub record IsSampleOf (now : RangeView) (most : ℕ) (sample : Sample) : Type 0 where
  pub past : sample.cookie ≤ now.cookie
  pub begins : now.first ≤ sample.extent.block
  pub present : sample.cookie ≡ now.cookie → sample.extent ≡ extent_at now sample.extent.block most

-- the same of what came of an event, where it gave a sample
abbrev pub IsOfRangeNow : RangeView → Event → Outcome → Type 0
IsOfRangeNow now event (Sampled sample) = IsSampleOf now (most_asked event sample) sample
IsOfRangeNow now event _ = Unit {0}

-- the same of an entry's sample, where it gave one
abbrev pub GivesPresent : RangeView → Entry → Type 0
GivesPresent now e = IsOfRangeNow now e.event e.outcome
