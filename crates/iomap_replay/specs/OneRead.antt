use Rattle.std.specs.Prelude.{◌≡◌, ℕ, zero, suc, ◌+◌, ◌-◌, ◌*◌, Bool, true, false, List, [], ◌∷◌, ◌++◌, length, map, take, drop, replicate}
use Rattle.std.specs.Bool.{MatchBool}
use Rattle.std.specs.List.{concat}
use Rattle.iob_base.specs.declared.answer.Fault.{Fault}
use Rattle.iob_base.specs.declared.answer.Fault.TheVariants.{Eio, NoMemory}
use Rattle.iob_base.specs.declared.answer.Reply.TheVariants.{Ok, Err}
use Rattle.iob_base.specs.declared.answer.Stop.TheVariants.{Whole}
use Rattle.iob_base.specs.declared.sector.Page.{Page}
use Rattle.iob_base.specs.declared.stamp.Mode.TheVariants.{Cached}
use Rattle.io_model.specs.Contents.{Content, device_bytes, opening_content}
use Rattle.io_model.specs.Fitting.{is_again}
use Rattle.io_model.specs.RunText.{is_error}
use Rattle.io_model.specs.declared.run.CallEnd.{CallEnd}
use Rattle.io_model.specs.declared.script.Script.{Script}
use Rattle.iomap_replay.specs.Devices.{blocks_with, first_number}
use Rattle.iomap_replay.specs.Facts.{first_block, blocks_met}
use Rattle.iomap_replay.specs.Runs.{read_stamp}
use Rattle.iomap_replay.specs.declared.job.Job.{Job}
use Rattle.range_core.specs.Events.{with_stamps}
use Rattle.range_core.specs.RangeView.{RangeView, range_of}
use Rattle.range_core.specs.Space.{SpaceClaims}
use Rattle.range_core.specs.Stamps.{stamps_from}
use Rattle.space_pool.specs.declared.entry.PoolEntry.{PoolEntry}
use Rattle.turn_cell.specs.Views.{SeatView}

-- the block in which the range of the call begins, and how many blocks it meets
abbrev pub block_of : Job → ℕ
block_of job = first_block job.device.block_size job.asked

abbrev pub count_of : Job → ℕ
count_of job = blocks_met job.device.block_size job.asked

-- the contents of so many blocks from one on, joined
abbrev pub joined_from : (ℕ → Content) → ℕ → ℕ → Content
joined_from content b zero = []
joined_from content b (suc n) = content b ++ joined_from content (b + 1) n

-- a page of zeros
abbrev pub blank : ℕ → Page
blank size = record { number = 0; bytes = replicate size 0 }

-- the bytes of pages, joined
abbrev pub bytes_of : List Page → List ℕ
bytes_of pages = concat (map (λ p. p.bytes) pages)

-- the range of the one file before the call, with this seat at the pool and what it claims
abbrev pub opened_range : Script → Job → SeatView PoolEntry → SpaceClaims → RangeView
opened_range script job seat space =
    range_of job.geometry Cached 0 job.blocks (job.extent ∷ []) (blocks_with (device_bytes script) (first_number job.extent.kind) job.extent.length) seat space 0

-- a range is that of the one file before the call
abbrev pub IsOpened : Script → Job → RangeView → Type 0
IsOpened script job r = r ≡ opened_range script job r.seat r.space

-- how many bios a call sent that failed so
abbrev pub bios_of : Fault → ℕ
bios_of (Eio _ _ _) = 1
bios_of _ = 0

-- a read that takes the device's bytes at once fails by a transfer, or for want of memory
abbrev pub is_read_fault : Fault → Bool
is_read_fault (Eio _ _ _) = true
is_read_fault NoMemory = true
is_read_fault _ = false

-- the read gave its whole range by one transfer, and left one stamp on each block that it met
pub record GaveRange (script : Script) (job : Job) (end : CallEnd) (old new : RangeView) : Type 0 where
  pub reply : end.answer.reply ≡ Ok job.asked.length Whole
  pub bios : end.answer.bios ≡ 1
  pub many : length end.got ≡ job.asked.length
  pub got : end.got ≡ take job.asked.length (drop (job.asked.off - block_of job * job.geometry.block_size) (joined_from (opening_content script 0) (block_of job) (count_of job)))
  pub pages : end.pages ≡ []
  pub left : new ≡ with_stamps old (stamps_from (block_of job) (count_of job) read_stamp)

-- the read failed, gave nothing and left all as it was
pub record GaveNothing (end : CallEnd) (old new : RangeView) : Type 0 where
  pub fault : Fault
  pub reply : end.answer.reply ≡ Err fault 0
  pub waited : is_again fault ≡ false
  pub told : is_read_fault fault ≡ true
  pub bios : end.answer.bios ≡ bios_of fault
  pub got : end.got ≡ []
  pub pages : end.pages ≡ []
  pub left : new ≡ old

-- the one of the two that the reply tells
abbrev pub IsOutcome : Script → Job → CallEnd → RangeView → RangeView → Type 0
IsOutcome script job end old new = MatchBool (is_error end.answer.reply) (GaveNothing end old new) (GaveRange script job end old new)

-- the end of a read that gave so many bytes, which are these
pub record IsWholeEnd (end : CallEnd) (n : ℕ) (bytes : List ℕ) : Type 0 where
  pub reply : end.answer.reply ≡ Ok n Whole
  pub bios : end.answer.bios ≡ 1
  pub many : length end.got ≡ n
  pub got : end.got ≡ bytes
  pub pages : end.pages ≡ []
