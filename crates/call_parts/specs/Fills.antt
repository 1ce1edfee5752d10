-- What a try does that reads cold blocks of a file into the cache.
use Rattle.std.specs.Prelude.{◌≡◌, ◌⊎◌, ℕ, Bool, true, false, if◌then◌else◌, Option, Some, None, List, [], ◌∷◌, length}
use Rattle.iob_base.specs.declared.answer.Fault.{Fault}
use Rattle.iob_base.specs.declared.answer.Fault.TheVariants.{Eio}
use Rattle.iob_base.specs.declared.answer.Fault.TheVariants.{NoMemory as WantsMemory}
use Rattle.iob_base.specs.declared.stamp.FileId.{FileId}
use Rattle.fault_device.specs.LaneView.{LaneView}
use Rattle.fault_device.specs.declared.lane.Done.{Done}
use Rattle.range_core.specs.declared.entry.Entry.{Entry}
use Rattle.range_core.specs.declared.entry.Event.{Event}
use Rattle.range_core.specs.declared.entry.Event.TheVariants.{FillBack, LendRead}
use Rattle.range_core.specs.declared.entry.Outcome.TheVariants.{Finished, Lending, Refused}
use Rattle.range_core.specs.declared.fault.EventFault.{EventFault}
use Rattle.range_core.specs.declared.fault.EventFault.TheVariants as refusal
use Rattle.range_core.specs.declared.lending.Lent.{Lent}
use Rattle.mount_parts.specs.MountView.{MountView}
use Rattle.mini_fs.specs.Acts.{Act, Acted, own_entries}
use Rattle.mini_fs.specs.Acts.Act.{Close, Run, Turn}
use Rattle.mini_fs.specs.PageTurns.{entry_by}
use Rattle.mini_fs.specs.PassView.{PassView}
use Rattle.call_parts.specs.Budgets.{LendsFew}
use Rattle.call_parts.specs.Steps.{ServedBy, Steps}
use Rattle.call_parts.specs.declared.cold.Fill.{Fill}
use Rattle.call_parts.specs.declared.cold.Fill.TheVariants.{Again, Failed, Filled, NoMemory}

-- the events that read blocks into the cache
abbrev pub fills : Event → Bool
fills (LendRead block most) = true
fills (FillBack ticket block blocks done) = true
fills _ = false

-- how a try is told whose loan was refused for this: a block that is away, or that needs no read, is to be tried again
abbrev pub fill_refused : EventFault → Fill
fill_refused (refusal.Away block ticket) = Again
fill_refused (refusal.Settled block) = Again
fill_refused _ = NoMemory

-- how a try is told whose transfer did this
abbrev pub fill_after : ℕ → Done → Fill
fill_after block done = if done.failed then Failed block done else Filled

-- What was lent on a ticket went with one bio and came back after the transfer that `done` tells, and the ticket was closed
pub record CarriedBack (stripe : ℕ) (lent : Lent) (before after : LaneView) (p q : PassView) (done : Done) : Type 0 where
  pub others : List Entry
  pub acted : Acted (Run 1 ∷ Turn stripe others (entry_by p.caller (FillBack lent.ticket lent.block (length lent.parts) done) Finished) ∷ Close stripe ∷ []) p q
  pub lane : ServedBy before after (done ∷ [])

module _ (caller block most : ℕ) where
  -- The entries are a loan of a run of blocks from the first one on, and its return after the transfer that `done` tells
  pub record CameBack (entries : List Entry) (done : Done) : Type 0 where
    pub ticket : ℕ
    pub blocks : ℕ
    pub entries_are : entries ≡ entry_by caller (LendRead block most) (Lending ticket blocks) ∷ entry_by caller (FillBack ticket block blocks done) Finished ∷ []

  -- the one entry is a loan that was refused
  abbrev pub IsRefusedLoan : List Entry → EventFault → Type 0
  IsRefusedLoan entries fault = entries ≡ entry_by caller (LendRead block most) (Refused fault) ∷ []

  -- the own entries of a try, and what it came to
  abbrev pub FillCame : List Entry → Fill → Type 0
  FillCame entries Filled = (done : Done) × CameBack entries done × (done.failed ≡ false)
  FillCame entries (Failed b done) = (b ≡ block) × CameBack entries done × (done.failed ≡ true)
  FillCame entries Again = (fault : EventFault) × IsRefusedLoan entries fault × (fill_refused fault ≡ Again)
  FillCame entries NoMemory = (entries ≡ []) ⊎ ((fault : EventFault) × IsRefusedLoan entries fault × (fill_refused fault ≡ NoMemory))

-- how many bios a try sent
abbrev pub bios_of : Fill → ℕ
bios_of Filled = 1
bios_of (Failed block done) = 1
bios_of _ = 0

-- what stops a call whose try came to this: a read that failed, and want of memory
abbrev pub fill_fault : Fill → Option Fault
fill_fault Filled = None
fill_fault Again = None
fill_fault (Failed block done) = Some (Eio done.lane done.before done.after)
fill_fault NoMemory = Some WantsMemory

-- One try to read cold blocks from one on, at most so many: a step that makes no other events, and what it came to
pub record Fills (m : MountView) (file : FileId) (block most : ℕ) (before after : LaneView) (p q : PassView) (fill : Fill) : Type 0 where
  pub acts : List Act
  pub steps : Steps m file fills before after p q acts
  pub came : FillCame p.caller block most (own_entries acts) fill
  pub few : LendsFew m file (λ b. true) block 1 (fill_fault fill) acts
