-- Each call is one of a trace.
use Rattle.std.specs.Prelude.{ℕ, false, List, length}
use Rattle.iob_base.specs.declared.answer.Answer.{Answer}
use Rattle.iob_base.specs.declared.stamp.FileId.{FileId}
use Rattle.io_model.specs.Answered.{answered_in}
use Rattle.io_model.specs.Parts.{Span, range_in, span}
use Rattle.iov_iter.specs.IovView.{IovView}
use Rattle.fault_device.specs.LaneView.{LaneView}
use Rattle.mount_parts.specs.MountView.{HasFile, MountView}
use Rattle.mini_fs.specs.Acts.{Act}
use Rattle.mini_fs.specs.Mappings.{file_end}
use Rattle.mini_fs.specs.PassView.{PassView}
use Rattle.buffered_read.specs.ReadCalls.{Preads, found_end}
use Rattle.buffered_write.specs.Allocates.{Allocates}
use Rattle.buffered_write.specs.Punches.{Punches}
use Rattle.buffered_write.specs.Pwrites.{Pwrites}
use Rattle.buffered_write.specs.Truncates.{Truncates, cut_span}
use Rattle.buffered_write.specs.Zeroes.{ZeroesRange}
use Rattle.call_traces.specs.Traces.{IsTraced, Traced}

-- a call with what it answered, from one pass to another by these acts
abbrev pub traced_call : ℕ → FileId → Span → PassView → List Act → PassView → Traced
traced_call number file answered before acts after = record { number = number; file = file; answered = answered; before = before; acts = acts; after = after }

module _ (m : MountView) (file : FileId) (call off : ℕ) (a b : LaneView) (p q : PassView) (answer : Answer) where
  -- the bytes that a call answered of so many asked from its offset on, in a file that ends at a byte
  abbrev pub answered_to : ℕ → ℕ → Span
  answered_to end asked = answered_in m.geometry.block_size (range_in end off asked) false answer.reply

  abbrev pub ReadIsTraced : Type 0
  ReadIsTraced = (iov later : IovView) (r : Preads m file call off a b p q iov later answer) → HasFile m file
      → IsTraced m (traced_call call file (answered_to (found_end (file_end m file) r.read.found) (length iov.bytes)) p r.acts q)

  abbrev pub WriteIsTraced : Type 0
  WriteIsTraced = (iov later : IovView) (w : Pwrites m file call off a b p q iov later answer) → HasFile m file
      → IsTraced m (traced_call call file (answered_to (file_end m file) (length iov.bytes)) p w.acts q)

  abbrev pub ZeroIsTraced : Type 0
  ZeroIsTraced = (asked : ℕ) (z : ZeroesRange m file call off asked a b p q answer) → HasFile m file
      → IsTraced m (traced_call call file (answered_to (file_end m file) asked) p z.acts q)

  abbrev pub PunchIsTraced : Type 0
  PunchIsTraced = (asked : ℕ) (z : Punches m file call off asked a b p q answer) → HasFile m file
      → IsTraced m (traced_call call file (answered_to (file_end m file) asked) p z.acts q)

  abbrev pub AllocIsTraced : Type 0
  AllocIsTraced = (asked : ℕ) (t : Allocates m file call off asked p q answer) → HasFile m file
      → IsTraced m (traced_call call file (span 0 0) p t.acts q)

  -- a cut is to the size `off`
  abbrev pub TruncIsTraced : Type 0
  TruncIsTraced = (t : Truncates m file call off a b p q answer) → HasFile m file
      → IsTraced m (traced_call call file (answered_in m.geometry.block_size (cut_span m file off t.found) false answer.reply) p t.acts q)
