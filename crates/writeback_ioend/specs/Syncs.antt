-- What a sync of a file does: it writes its dirty blocks to the device, and compares the count of failed writebacks with the one that its caller was told of.
use Rattle.std.specs.Prelude.{◌≡◌, ℕ, ◌+◌, ◌*◌, ◌-◌, ◌^◌, ◌≤◌, nat_lt, min, true, set, if◌then◌else◌, Option, Some, None, List, [], ◌∷◌, ◌++◌, length, slice_get, IsTrue}
use Rattle.iob_base.specs.declared.answer.Answer.{Answer}
use Rattle.iob_base.specs.declared.answer.Fault.{Fault}
use Rattle.iob_base.specs.declared.answer.Fault.TheVariants.{SyncEio}
use Rattle.iob_base.specs.declared.answer.Reply.{Reply}
use Rattle.iob_base.specs.declared.answer.Reply.TheVariants.{Ok, Err}
use Rattle.iob_base.specs.declared.answer.Stop.TheVariants.{Whole}
use Rattle.iob_base.specs.declared.stamp.FileId.{FileId}
use Rattle.io_model.specs.Lawful.{is_lawful_reply}
use Rattle.io_model.specs.Parts.{Span}
use Rattle.io_model.specs.declared.script.Verb.TheVariants.{Sync}
use Rattle.fault_device.specs.LaneView.{LaneView}
use Rattle.turn_cell.specs.Stakes.{total}
use Rattle.turn_cell.specs.Views.{CellView}
use Rattle.range_core.specs.EntryCounts.{failures}
use Rattle.range_core.specs.RangeView.{RangeView}
use Rattle.range_core.specs.declared.entry.Entry.{Entry}
use Rattle.range_core.specs.declared.entry.Event.TheVariants.{Sample as Look}
use Rattle.range_core.specs.declared.entry.Outcome.TheVariants.{Sampled}
use Rattle.range_core.specs.declared.sample.Sample.{Sample}
use Rattle.mount_parts.specs.MountView.{MountView, file_at, stripe_at, stripes_of}
use Rattle.mini_fs.specs.Acts.{Act, own_entries, seen_in}
use Rattle.mini_fs.specs.Acts.Act.{Turn}
use Rattle.mini_fs.specs.CallActs.{loans_in}
use Rattle.mini_fs.specs.PageTurns.{entry_by}
use Rattle.mini_fs.specs.PassView.{PassView}
use Rattle.call_parts.specs.Reads.{seen_at}
use Rattle.call_parts.specs.Steps.{Steps}
use Rattle.writeback_ioend.specs.DropsCache.{blocks_from}
use Rattle.writeback_ioend.specs.ErrorCounts.{count_of}
use Rattle.writeback_ioend.specs.WriteRuns.{WritesOut}
use Rattle.writeback_ioend.specs.Writebacks.{all_written, refused_loans, turns_in, write_turns, writes_back}

-- the look at all blocks that the stripe of a file from a block on has
abbrev pub look_entry : ℕ → ℕ → ℕ → Sample → Entry
look_entry caller blocks from sample = entry_by caller (Look from (blocks_from blocks from)) (Sampled sample)

-- one look a stripe from a block on, in order of stripes, and each gave its sample
abbrev pub looks_from : ℕ → ℕ → ℕ → List Sample → List Entry
looks_from caller blocks from [] = []
looks_from caller blocks from (sample ∷ samples) = look_entry caller blocks from sample ∷ looks_from caller blocks (from + 64) samples

-- how many failed writebacks the samples tell of together
abbrev pub errors_in : List Sample → ℕ
errors_in samples = total (λ s. s.errors) samples

-- the same as far as a number of 64 bits goes
abbrev pub found_errors : List Sample → ℕ
found_errors samples = min (errors_in samples) (2 ^ 64 - 1)

-- A turn of these acts gave a sample of a stripe, which tells how many failed writebacks the history has that the turn saw
pub record ToldErrors (m : MountView) (stripe : ℕ) (sample : Sample) (p : PassView) (acts : List Act) : Type 0 where
  pub before : List Act
  pub others : List Entry
  pub own : Entry
  pub after : List Act
  pub acts_are : acts ≡ before ++ Turn stripe others own ∷ after
  pub gave : own.outcome ≡ Sampled sample
  pub cell : CellView RangeView
  pub cell_is : slice_get m.stripes stripe ≡ Some cell
  pub errors_are : sample.errors ≡ min (cell.opening.errors + total failures ((seen_at p stripe ++ seen_in stripe before) ++ others)) (2 ^ 64 - 1)

-- a turn of these acts gave each of the samples, one a stripe from a block on, in order of stripes
abbrev pub AreTold : MountView → FileId → ℕ → List Sample → PassView → List Act → Type 0
AreTold m file from [] p acts = Unit {0}
AreTold m file from (sample ∷ samples) p acts = ToldErrors m (stripe_at m file from) sample p acts × AreTold m file (from + 64) samples p acts

-- One look at a stripe of a file, whatever lane the call has, which found so many failed writebacks
pub record LooksOnce (m : MountView) (file : FileId) (stripe : ℕ) (p q : PassView) (errors : ℕ) : Type 0 where
  pub acts : List Act
  pub sample : Sample
  pub steps : (lane : LaneView) → Steps m file writes_back lane lane p q acts
  pub entries : own_entries acts ≡ look_entry p.caller (file_at m file).blocks (stripe * 64) sample ∷ []
  pub told : ToldErrors m (stripe_at m file (stripe * 64)) sample p acts
  pub found : errors ≡ sample.errors

-- So many stripes of a file, from its first one on, were looked at, a turn each, which found so many failed writebacks together
pub record CountsErrors (m : MountView) (file : FileId) (stripes : ℕ) (p q : PassView) (errors : ℕ) : Type 0 where
  pub acts : List Act
  pub samples : List Sample
  pub steps : (lane : LaneView) → Steps m file writes_back lane lane p q acts
  pub stripes_are : length samples ≡ stripes
  pub entries : own_entries acts ≡ looks_from p.caller (file_at m file).blocks 0 samples
  pub told : AreTold m file 0 samples p acts
  pub found : errors ≡ found_errors samples

-- what a sync replies that wrote so many blocks and found so many failed writebacks, to a caller that was told of so many
abbrev pub compared : ℕ → ℕ → ℕ → Reply
compared count told found = if nat_lt told found then Err (SyncEio told found) 0 else Ok count Whole

-- the same of one that may have been stopped by a fault
abbrev pub sync_reply : ℕ → Option Fault → ℕ → ℕ → Reply
sync_reply count None told found = compared count told found
sync_reply count (Some fault) told found = Err fault 0

-- the counts of a caller after a sync of a file: that of the file is the one found, where nothing stopped the sync
abbrev pub counts_after : List ℕ → FileId → Option Fault → ℕ → List ℕ
counts_after seen file None found = set seen file.0 found
counts_after seen file (Some fault) found = seen

-- how many stripes of a file of so many blocks are looked at: all, or none where the sync was stopped
abbrev pub stripes_looked : ℕ → Option Fault → ℕ
stripes_looked blocks None = stripes_of blocks
stripes_looked blocks (Some fault) = 0

-- All dirty blocks of a file were written to the device, and those that were away once they were back. Then, where nothing stopped it, each stripe was looked at once, and what the looks found together is the count that the caller was told of from now on. It is an error exactly where it is above the count before. The call answers how many blocks were written, and how many bios it sent
pub record Syncs (m : MountView) (file : FileId) (seen told : List ℕ) (before after : LaneView) (p q : PassView) (answer : Answer) : Type 0 where
  pub acts : List Act
  pub stopped : Option Fault
  pub out : WritesOut m file true 0 (file_at m file).blocks before after p q acts stopped
  pub written : List Act
  pub looks : List Act
  pub acts_are : acts ≡ written ++ looks
  pub samples : List Sample
  pub stripes : length samples ≡ stripes_looked (file_at m file).blocks stopped
  pub looked : own_entries looks ≡ looks_from p.caller (file_at m file).blocks 0 samples
  pub found : AreTold m file 0 samples p acts
  pub counts : told ≡ counts_after seen file stopped (found_errors samples)
  pub reply : answer.reply ≡ sync_reply (all_written (own_entries acts)) stopped (count_of seen file) (found_errors samples)
  pub lawful : (range : Span) → IsTrue (is_lawful_reply m.geometry.grain m.geometry.block_size (file_at m file).blocks range true Sync answer.reply)
  pub bios : answer.bios ≡ loans_in acts
  pub turns : turns_in acts ≤ write_turns 0 (file_at m file).blocks answer.bios (refused_loans (own_entries acts)) stopped + stripes_looked (file_at m file).blocks stopped
