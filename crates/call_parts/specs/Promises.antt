-- Which entries of a call promised space to blocks, and which took such promises back.
use Rattle.std.specs.Prelude.{◌≡◌, ℕ, Bool, true, false, List, [], ◌∷◌, ◌++◌, All}
use Rattle.io_model.specs.declared.file.Extent.{Extent}
use Rattle.range_core.specs.declared.entry.Entry.{Entry}
use Rattle.range_core.specs.declared.entry.Event.{Event}
use Rattle.range_core.specs.declared.entry.Event.TheVariants.{Reserve, Unreserve}
use Rattle.range_core.specs.declared.entry.Outcome.{Outcome}
use Rattle.range_core.specs.declared.entry.Outcome.TheVariants.{Counted, Sampled}
use Rattle.range_core.specs.declared.sample.Sample.{Sample}

-- an event that came about promised space to blocks
abbrev pub is_promise : Event → Outcome → Bool
is_promise (Reserve seen blocks) (Sampled sample) = true
is_promise _ _ = false

-- an entry promised space to no block
abbrev pub PromisedNone : Entry → Type 0
PromisedNone e = is_promise e.event e.outcome ≡ false

-- The last of these entries promised space to the blocks of a sample, which it gave, and no other promised any
pub record PromisedLast (sample : Sample) (entries : List Entry) : Type 0 where
  pub before : List Entry
  pub last : Entry
  pub seen : Sample
  pub blocks : ℕ
  pub entries_are : entries ≡ before ++ last ∷ []
  pub none : All PromisedNone before
  pub event_is : last.event ≡ Reserve seen blocks
  pub gave : last.outcome ≡ Sampled sample

-- the entries of a begin promised space exactly where its mapping is new: to the blocks of the mapping, by the last of them
abbrev pub Promised : Bool → Sample → List Entry → Type 0
Promised true sample entries = PromisedLast sample entries
Promised false sample entries = All PromisedNone entries

-- The one entry took promises back from the blocks of an extent
pub record TookBackFrom (extent : Extent) (entries : List Entry) : Type 0 where
  pub own : Entry
  pub count : ℕ
  pub entries_are : entries ≡ own ∷ []
  pub event_is : own.event ≡ Unreserve extent.block extent.length
  pub outcome_is : own.outcome ≡ Counted count

-- promises were taken back from the blocks of an extent, or there was no entry
abbrev pub TookBack : Bool → Extent → List Entry → Type 0
TookBack true extent entries = TookBackFrom extent entries
TookBack false extent entries = entries ≡ []
