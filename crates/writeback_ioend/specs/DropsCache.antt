-- What a call that drops the clean pages of a file does.
use Rattle.std.specs.Prelude.{◌≡◌, ℕ, ◌+◌, ◌-◌, ◌*◌, ◌^◌, ◌<◌, ◌≤◌, Bool, true, false, min, Some, List, [], ◌∷◌, length, slice_get}
use Rattle.iob_base.specs.declared.answer.Answer.{Answer}
use Rattle.iob_base.specs.declared.answer.Reply.TheVariants.{Ok}
use Rattle.iob_base.specs.declared.answer.Stop.TheVariants.{Whole}
use Rattle.iob_base.specs.declared.stamp.FileId.{FileId}
use Rattle.turn_cell.specs.Stakes.{total}
use Rattle.range_core.specs.EntryStamps.{stamps_in}
use Rattle.range_core.specs.declared.entry.Entry.{Entry}
use Rattle.range_core.specs.declared.entry.Event.{Event}
use Rattle.range_core.specs.declared.entry.Event.TheVariants.{DropClean}
use Rattle.range_core.specs.declared.entry.Outcome.TheVariants.{Counted}
use Rattle.mount_parts.specs.MountView.{HasBlock, MountView, file_at, stripes_of}
use Rattle.mini_fs.specs.Acts.{Act, own_entries}
use Rattle.mini_fs.specs.CallActs.{CallActs, loans_in, lock_acts, size_acts}
use Rattle.mini_fs.specs.PageTurns.{entry_by}
use Rattle.mini_fs.specs.PassView.{PassView}

-- the events that drop clean pages
abbrev pub drops : Event → Bool
drops (DropClean block blocks) = true
drops _ = false

-- how many blocks of a file of so many its stripe from a block on has
abbrev pub blocks_from : ℕ → ℕ → ℕ
blocks_from blocks from = min 64 (blocks - from)

-- one entry a stripe from a block on, each of all blocks of its stripe, and each counted so many pages
abbrev pub drops_from : ℕ → ℕ → ℕ → List ℕ → List Entry
drops_from caller blocks from [] = []
drops_from caller blocks from (count ∷ counts) = entry_by caller (DropClean from (blocks_from blocks from)) (Counted count) ∷ drops_from caller blocks (from + 64) counts

-- a block is in the run of an entry that dropped clean pages
pub record IsDroppedBy (caller b : ℕ) (entry : Entry) : Type 0 where
  pub from : ℕ
  pub blocks : ℕ
  pub count : ℕ
  pub entry_is : entry ≡ entry_by caller (DropClean from blocks) (Counted count)
  pub low : from ≤ b
  pub high : b < from + blocks

-- one of the entries is such one of a block
abbrev pub HasDropped : ℕ → ℕ → List Entry → Type 0
HasDropped caller b entries = (i : ℕ) × (e : Entry) × (slice_get entries i ≡ Some e) × IsDroppedBy caller b e

abbrev pub sum_of : List ℕ → ℕ
sum_of counts = total (λ n. n) counts

-- From the pass `p` to the pass `q` one stripe of a file lost its clean pages, so many
pub record DropsStripe (m : MountView) (file : FileId) (stripe : ℕ) (p q : PassView) (pages : ℕ) : Type 0 where
  pub acts : List Act
  pub did : CallActs m file drops p q acts
  pub entries : own_entries acts ≡ drops_from p.caller (file_at m file).blocks (stripe * 64) (pages ∷ [])
  pub last : q.last ≡ p.last
  pub locks : lock_acts acts ≡ []
  pub sizes : size_acts acts ≡ []
  pub few : pages ≤ blocks_from (file_at m file).blocks (stripe * 64)

-- From the pass `p` to the pass `q` so many stripes of a file, from its first one on, lost their clean pages, so many in all
pub record DropsStripes (m : MountView) (file : FileId) (stripes : ℕ) (p q : PassView) (pages : ℕ) : Type 0 where
  pub acts : List Act
  pub counts : List ℕ
  pub did : CallActs m file drops p q acts
  pub stripes_are : length counts ≡ stripes
  pub entries : own_entries acts ≡ drops_from p.caller (file_at m file).blocks 0 counts
  pub last : q.last ≡ p.last
  pub locks : lock_acts acts ≡ []
  pub sizes : size_acts acts ≡ []
  pub sum : pages ≡ sum_of counts
  pub few : pages ≤ min (stripes * 64) (file_at m file).blocks

-- From the pass `p` to the pass `q` each block of a file was in the run of one entry that drops clean pages, one a stripe, and the answer is the sum of theirs. No bio was sent, no stamp left, no class taken and no size met
pub record DropsCache (m : MountView) (file : FileId) (p q : PassView) (answer : Answer) : Type 0 where
  pub acts : List Act
  pub counts : List ℕ
  pub did : CallActs m file drops p q acts
  pub stripes : length counts ≡ stripes_of (file_at m file).blocks
  pub entries : own_entries acts ≡ drops_from p.caller (file_at m file).blocks 0 counts
  pub all : (b : ℕ) → HasBlock m file b → HasDropped p.caller b (own_entries acts)
  pub stamps : stamps_in m.geometry.block_size (own_entries acts) ≡ []
  pub bios : answer.bios ≡ min (loans_in acts) (2 ^ 64 - 1)
  pub locks : lock_acts acts ≡ []
  pub sizes : size_acts acts ≡ []
  pub reply : answer.reply ≡ Ok (sum_of counts) Whole
  pub few : sum_of counts ≤ (file_at m file).blocks
