-- Each entry of a call changes the blocks as its stamps there say, where the script has such a call under the call's number.
use Rattle.std.specs.Prelude.{◌≡◌, ℕ, ◌<◌, List, [], Some, All, length}
use Rattle.std.specs.List.{concat}
use Rattle.iob_base.specs.declared.answer.Answer.{Answer}
use Rattle.iob_base.specs.declared.stamp.FileId.{FileId}
use Rattle.io_model.specs.Lists.{numbered}
use Rattle.io_model.specs.Parts.{Span, range_in}
use Rattle.io_model.specs.Ranges.{Ranged}
use Rattle.io_model.specs.declared.script.Verb.{Verb}
use Rattle.io_model.specs.declared.script.Verb.TheVariants.{Pread, Punch, Pwrite, Trunc, Zero}
use Rattle.iov_iter.specs.IovView.{IovView}
use Rattle.fault_device.specs.LaneView.{LaneView}
use Rattle.range_core.specs.EntryStamps.{stamps_in}
use Rattle.range_core.specs.declared.entry.Entry.{Entry}
use Rattle.mount_parts.specs.MountView.{MountView}
use Rattle.mini_fs.specs.Acts.{Act, own_entries}
use Rattle.mini_fs.specs.Mappings.{file_end}
use Rattle.mini_fs.specs.PassView.{PassView}
use Rattle.buffered_read.specs.ReadCalls.{Preads}
use Rattle.buffered_write.specs.Allocates.{Allocates}
use Rattle.buffered_write.specs.Punches.{Punches}
use Rattle.buffered_write.specs.Pwrites.{Pwrites}
use Rattle.buffered_write.specs.Truncates.{Truncates, cut_span}
use Rattle.buffered_write.specs.Zeroes.{ZeroesRange}
use Rattle.call_traces.specs.Changes.{ChangesAsTold}

-- Of calls, the one of a number is of this verb
pub record NamesCall (calls : List Ranged) (number : ℕ) (verb : Verb) : Type 0 where
  pub ranged : Ranged
  pub named : numbered calls number ≡ Some ranged
  pub verb_is : ranged.call.verb ≡ verb

-- and it acts on these bytes of its file
pub record ActsOn (calls : List Ranged) (number : ℕ) (verb : Verb) (range : Span) : Type 0 where
  pub call : NamesCall calls number verb
  pub range_is : call.ranged.range ≡ range

-- each own entry of these acts changes a block as its stamps there say
abbrev pub AreTold : ℕ → List Ranged → ℕ → List Act → Type 0
AreTold size calls b acts = All (ChangesAsTold size calls b) (own_entries acts)

-- entries that leave no stamps change no block
abbrev pub UnstampedAreTold : Type 0
UnstampedAreTold = (size : ℕ) → 0 < size → (es : List Entry) → stamps_in size es ≡ [] → (calls : List Ranged) (b : ℕ) → All (ChangesAsTold size calls b) es

module _ (m : MountView) (file : FileId) (call off : ℕ) (before after : LaneView) (p q : PassView) (answer : Answer) where
  abbrev size : ℕ
  size = m.geometry.block_size

  abbrev pub ReadIsTold : Type 0
  ReadIsTold = (iov later : IovView) (t : Preads m file call off before after p q iov later answer) → 0 < size
      → (calls : List Ranged) (lengths : List ℕ) → NamesCall calls call (Pread off lengths) → (b : ℕ) → AreTold size calls b t.acts

  abbrev pub WriteIsTold : Type 0
  WriteIsTold = (iov later : IovView) (t : Pwrites m file call off before after p q iov later answer) → 0 < size
      → (calls : List Ranged) (segments : List (List ℕ)) → concat segments ≡ iov.bytes → ActsOn calls call (Pwrite off segments) (range_in (file_end m file) off (length iov.bytes)) → (b : ℕ) → AreTold size calls b t.acts

  abbrev pub ZeroIsTold : Type 0
  ZeroIsTold = (asked : ℕ) (t : ZeroesRange m file call off asked before after p q answer) → 0 < size
      → (calls : List Ranged) → ActsOn calls call (Zero off asked) (range_in (file_end m file) off asked) → (b : ℕ) → AreTold size calls b t.acts

  abbrev pub PunchIsTold : Type 0
  PunchIsTold = (asked : ℕ) (t : Punches m file call off asked before after p q answer) → 0 < size
      → (calls : List Ranged) → ActsOn calls call (Punch off asked) (range_in (file_end m file) off asked) → (b : ℕ) → AreTold size calls b t.acts

  abbrev pub AllocIsTold : Type 0
  AllocIsTold = (asked : ℕ) (t : Allocates m file call off asked p q answer) → 0 < size → (calls : List Ranged) (b : ℕ) → AreTold size calls b t.acts

  -- a cut is to the size `off`
  abbrev pub TruncIsTold : Type 0
  TruncIsTold = (t : Truncates m file call off before after p q answer) → 0 < size
      → (calls : List Ranged) → ActsOn calls call (Trunc off) (cut_span m file off t.found) → (b : ℕ) → AreTold size calls b t.acts
