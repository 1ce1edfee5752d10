-- What a call does that writes the dirty blocks of a part of a file to the device.
use Rattle.std.specs.Prelude.{◌≡◌, ◌⊎◌, ℕ, ◌+◌, ◌-◌, ◌*◌, ◌/◌, ◌<◌, ◌≤◌, min, Bool, true, false, ◌||◌, is_some, Option, Some, None, IfSome, List, [], ◌∷◌, ◌++◌, length, if◌then◌else◌, slice_get}
use Rattle.iob_base.specs.declared.answer.Fault.{Fault}
use Rattle.iob_base.specs.declared.answer.Fault.TheVariants.{NoMemory, Worn}
use Rattle.iob_base.specs.declared.stamp.FileId.{FileId}
use Rattle.fault_device.specs.LaneView.{LaneView}
use Rattle.fault_device.specs.declared.lane.Done.{Done}
use Rattle.turn_cell.specs.Stakes.{total}
use Rattle.turn_cell.specs.Views.{CellView}
use Rattle.range_core.specs.BlockStates.{BlockState, state_of, states_replayed}
use Rattle.range_core.specs.EntryCounts.{one_where}
use Rattle.range_core.specs.RangeView.{RangeView}
use Rattle.range_core.specs.declared.cell.Cell.{Cell}
use Rattle.range_core.specs.declared.entry.Entry.{Entry}
use Rattle.range_core.specs.declared.entry.Event.{Event}
use Rattle.range_core.specs.declared.entry.Event.TheVariants.{Attach, LendWriteback, Sample as Look, WrittenBack}
use Rattle.range_core.specs.declared.entry.Outcome.{Outcome}
use Rattle.range_core.specs.declared.entry.Outcome.TheVariants.{Counted, Lending, Refused}
use Rattle.range_core.specs.declared.fault.EventFault.{EventFault}
use Rattle.range_core.specs.declared.fault.EventFault.TheVariants.{Away, Settled}
use Rattle.mount_parts.specs.MountView.{MountView, stripe_at, stripes_of}
use Rattle.mini_fs.specs.Acts.{Act, Acted, made_in, own_entries, seen_in}
use Rattle.mini_fs.specs.Acts.Act.{Turn}
use Rattle.mini_fs.specs.CallActs.{loans_in}
use Rattle.mini_fs.specs.PassView.{IsPassOf, PassView}
use Rattle.call_parts.specs.Causes.{HasOne, IsCaused}
use Rattle.call_parts.specs.Reads.{seen_at}
use Rattle.call_parts.specs.Steps.{Steps, dones_in}
use Rattle.writeback_ioend.specs.declared.walk.Written.{Written}

-- the events of a call that writes dirty blocks out: looks, space for the dirty blocks that were promised some, loans and returns
abbrev pub writes_back : Event → Bool
writes_back (Look block most) = true
writes_back (Attach block blocks) = true
writes_back (LendWriteback block most) = true
writes_back (WrittenBack ticket block kind blocks done) = true
writes_back _ = false

-- how many blocks an entry wrote, and some entries together
abbrev pub written_by : Event → Outcome → ℕ
written_by (WrittenBack ticket block kind blocks done) (Counted n) = n
written_by _ _ = 0

abbrev pub all_written : List Entry → ℕ
all_written entries = total (λ e. written_by e.event e.outcome) entries

-- the block that an entry asked for, or the place itself
abbrev pub asked_from : ℕ → Event → ℕ
asked_from at (LendWriteback block most) = block
asked_from at _ = at

-- the block from which on a call asks after a refusal: what was refused as settled or, where the call does not wait, as away, is passed by
abbrev pub asked_again : Bool → ℕ → EventFault → ℕ
asked_again waits block (Settled found) = block + 1
asked_again waits block (Away found ticket) = if waits then block else block + 1
asked_again waits block _ = block

-- the same after an entry, which may have lent blocks
abbrev pub asked_to : Bool → ℕ → Event → Outcome → ℕ
asked_to waits at (LendWriteback block most) (Lending ticket blocks) = block + blocks
asked_to waits at (LendWriteback block most) (Refused fault) = asked_again waits block fault
asked_to waits at (LendWriteback block most) _ = block
asked_to waits at _ _ = at

-- the blocks that entries ask for ascend from one on: none is lent twice, and what is passed by is not asked for again
abbrev pub AsksAscend : Bool → ℕ → List Entry → Type 0
AsksAscend waits at [] = Unit {0}
AsksAscend waits at (e ∷ entries) = (at ≤ asked_from at e.event) × AsksAscend waits (asked_to waits at e.event e.outcome) entries

-- what the first of these entries that took blocks back tells of a transfer that failed
abbrev pub failed_of : Event → Outcome → Option Done
failed_of (WrittenBack ticket block kind blocks done) (Counted n) = if done.failed then Some done else None
failed_of _ _ = None

abbrev pub or_else : Option Done → Option Done → Option Done
or_else (Some done) other = Some done
or_else None other = other

abbrev pub first_failed : List Entry → Option Done
first_failed [] = None
first_failed (e ∷ entries) = or_else (failed_of e.event e.outcome) (first_failed entries)

-- a block has nothing to be written and nobody has its sector; somebody has it
pub record IsSettled (s : BlockState) : Type 0 where
  pub clean : s.dirty ≡ false
  pub home : s.away ≡ None

abbrev pub IsAway : BlockState → Type 0
IsAway s = is_some s.away ≡ true

-- a block has something to be written, or somebody has it
abbrev pub IsDueState : BlockState → Type 0
IsDueState s = s.dirty || is_some s.away ≡ true

-- A turn of these acts found a block so: that is how the history leaves it which the turn saw
pub record WasFound (So : BlockState → Type 0) (m : MountView) (file : FileId) (b : ℕ) (p : PassView) (acts : List Act) : Type 0 where
  pub before : List Act
  pub others : List Entry
  pub own : Entry
  pub after : List Act
  pub acts_are : acts ≡ before ++ Turn (stripe_at m file b) others own ∷ after
  pub cell : CellView RangeView
  pub cell_is : slice_get m.stripes (stripe_at m file b) ≡ Some cell
  pub opening : Cell
  pub opening_is : slice_get cell.opening.cells (b - cell.opening.first) ≡ Some opening
  pub found : So (states_replayed cell.opening.geometry.block_size b (state_of opening) ((seen_at p (stripe_at m file b) ++ seen_in (stripe_at m file b) before) ++ others))

-- an act asks for the loan of a block only where others before it had found the block dirty or away
abbrev pub AsksAt : MountView → FileId → PassView → List Act → Act → Type 0
AsksAt m file p before (Turn stripe others own) = (block most : ℕ) → own.event ≡ LendWriteback block most → WasFound IsDueState m file block p before
AsksAt m file p before _ = Unit {0}

-- the same of acts behind others: what was found clean is not asked for
abbrev pub AsksDue : MountView → FileId → PassView → List Act → List Act → Type 0
AsksDue m file p before [] = Unit {0}
AsksDue m file p before (a ∷ acts) = AsksAt m file p before a × AsksDue m file p (before ++ a ∷ []) acts

-- the same, where this block was found so
abbrev pub AsksFrom : MountView → FileId → ℕ → PassView → List Act → Type 0
AsksFrom m file at p acts = (start : PassView) (before : List Act) → IsPassOf m start → Acted before start p → WasFound IsDueState m file at start before → AsksDue m file start before acts

-- an entry took a block back that was lent for a write of its page
abbrev pub TakesBack : ℕ → Event → Type 0
TakesBack b (WrittenBack ticket block kind blocks done) = (block ≤ b) × (b < block + blocks)
TakesBack b _ = ⊥

abbrev pub TookBack : ℕ → Entry → Type 0
TookBack b e = TakesBack b e.event

-- No block is missed: it was found settled, or was written and came back to its stripe, or, where the call does not wait for others, was found away
abbrev pub IsMet : Bool → MountView → FileId → ℕ → PassView → List Act → Type 0
IsMet waits m file b p acts = WasFound IsSettled m file b p acts ⊎ (HasOne (TookBack b) (made_in (stripe_at m file b) acts) ⊎ ((waits ≡ false) × WasFound IsAway m file b p acts))

-- how many turns at stripes acts made
abbrev pub turns_in : List Act → ℕ
turns_in acts = length (own_entries acts)

-- an entry was refused a loan for a write, and how many entries were
abbrev pub is_refused_loan : Event → Outcome → Bool
is_refused_loan (LendWriteback block most) (Refused fault) = true
is_refused_loan _ _ = false

abbrev pub refused_loans : List Entry → ℕ
refused_loans entries = total (λ e. one_where (is_refused_loan e.event e.outcome)) entries

-- in how many stripes the blocks of a file lie from one up to another
abbrev pub stripes_met : ℕ → ℕ → ℕ
stripes_met from to = min (to - from) (stripes_of to - from / 64)

-- the last turns of a call that something stopped, which led to no loan
abbrev pub last_turns : Option Fault → ℕ
last_turns None = 0
last_turns (Some fault) = 2

-- The turns that it takes at most to write the dirty blocks from one up to another with so many bios, where so many loans were refused: one for each stripe, five for each bio, and four for each refusal. A bio takes a look that finds its first block, one turn that gives its folio space, one in which it goes out, a look for what follows, and one for its return. A loan is refused where somebody has the block or was there first, or for what stops the call
abbrev pub write_turns : ℕ → ℕ → ℕ → ℕ → Option Fault → ℕ
write_turns from to bios refusals stopped = stripes_met from to + 5 * bios + 4 * refusals + last_turns stopped

-- what can stop such a call
abbrev pub StopsWriteback : Fault → Type 0
StopsWriteback NoMemory = Unit {0}
StopsWriteback (Worn cookie) = Unit {0}
StopsWriteback _ = ⊥

-- From the pass `p` to the pass `q` the dirty blocks of a file from one up to another were written to the device, each at most once, in order. Where nothing stopped it, no block was missed. It tells how many blocks were written, how many bios it sent, each with 1 to 16 blocks, the first transfer that failed, and what stopped it. What is clean takes one turn a stripe
pub record WritesBack (m : MountView) (file : FileId) (waits : Bool) (from to : ℕ) (before after : LaneView) (p q : PassView) (written : Written) : Type 0 where
  pub acts : List Act
  pub steps : Steps m file writes_back before after p q acts
  pub begun : q.begun ≡ p.begun
  pub ascending : AsksAscend waits from (own_entries acts)
  pub blocks : written.blocks ≡ all_written (own_entries acts)
  pub few : written.blocks ≤ to - from
  pub bios : written.bios ≡ loans_in acts
  pub few_bios : written.bios ≤ to - from
  pub enough_bios : written.blocks ≤ written.bios * 16
  pub returned : length (dones_in (own_entries acts)) ≡ loans_in acts
  pub sought : AsksDue m file p [] acts
  pub turns : turns_in acts ≤ write_turns from to written.bios (refused_loans (own_entries acts)) written.fault
  pub failed : written.failed ≡ first_failed (own_entries acts)
  pub met : written.fault ≡ None → (b : ℕ) → from ≤ b → b < to → IsMet waits m file b p acts
  pub stops : IfSome written.fault StopsWriteback
  pub cause : IfSome written.fault (IsCaused m (own_entries acts))
