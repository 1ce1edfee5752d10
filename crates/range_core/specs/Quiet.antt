-- Entries that leave everything as it was.
use Rattle.std.specs.Prelude.{◌≡◌, ℕ, true, []}
use Rattle.io_model.specs.Contents.{Content}
use Rattle.range_core.specs.BlockContents.{content_after}
use Rattle.range_core.specs.BlockStates.{BlockState, state_after}
use Rattle.range_core.specs.EntryCounts.{changes, failures, lendings}
use Rattle.range_core.specs.EntryStamps.{stamps_of}
use Rattle.range_core.specs.declared.entry.Entry.{Entry}
use Rattle.range_core.specs.declared.entry.Event.{Event}
use Rattle.range_core.specs.declared.entry.Outcome.TheVariants.{Refused}
use Rattle.range_core.specs.declared.fault.EventFault.{EventFault}
use Rattle.range_core.specs.Happened.{fits_by}

-- No block has another content, kind, dirty bit or ticket after the entry, it left no stamp, none of the counts rose, and it says nothing of what it found
pub record IsQuiet (size : ℕ) (e : Entry) : Type 0 where
  pub content : (b : ℕ) (x : Content) → content_after size b x e ≡ x
  pub state : (b : ℕ) (s : BlockState) → state_after size b s e ≡ s
  pub failed : failures e ≡ 0
  pub lent : lendings e ≡ 0
  pub changed : changes e ≡ 0
  pub stamps : stamps_of size e ≡ []
  pub found : (b : ℕ) (s : BlockState) → fits_by size b e s ≡ true

-- an event that was refused is quiet
abbrev pub RefusedIsQuiet : Type 0
RefusedIsQuiet = (size caller : ℕ) (event : Event) (fault : EventFault) → IsQuiet size (record { caller = caller; event = event; outcome = Refused fault })
