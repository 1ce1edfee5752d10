-- How a walk over blocks that writes the dirty ones goes on, and what of its turns tell.
use Rattle.std.specs.Prelude.{◌≡◌, ℕ, ◌+◌, ◌-◌, ◌*◌, ◌%◌, ◌<◌, ◌≤◌, min, Bool, Option, None, IfSome, All, IsTrue, List, [], ◌∷◌, length}
use Rattle.iob_base.specs.declared.answer.Fault.{Fault}
use Rattle.iob_base.specs.declared.stamp.FileId.{FileId}
use Rattle.fault_device.specs.LaneView.{LaneView}
use Rattle.range_core.specs.declared.entry.Entry.{Entry}
use Rattle.mount_parts.specs.MountView.{MountView}
use Rattle.mini_fs.specs.Acts.{Act, Acted, own_entries}
use Rattle.mini_fs.specs.CallActs.{IsActAt, loans_in, lock_acts, size_acts}
use Rattle.mini_fs.specs.PassView.{IsPassOf, PassView}
use Rattle.call_parts.specs.Causes.{IsCaused}
use Rattle.call_parts.specs.Steps.{Steps, dones_in}
use Rattle.writeback_ioend.specs.Writebacks.{AsksAscend, AsksDue, AsksFrom, IsMet, StopsWriteback, all_written, asked_to, first_failed, last_turns, or_else, refused_loans, stripes_met, turns_in, write_turns, writes_back}
use Rattle.writeback_ioend.specs.declared.walk.Written.{Written}

-- the place from which on is asked behind some entries, from a block on
abbrev pub asks_end : Bool → ℕ → List Entry → ℕ
asks_end waits at [] = at
asks_end waits at (e ∷ entries) = asks_end waits (asked_to waits at e.event e.outcome) entries

-- What all acts of a walk have in common: they are at its file, make only its events, under the number of its pass, and meet no class, no size and no mapping
pub record Moves (m : MountView) (file : FileId) (p q : PassView) (acts : List Act) : Type 0 where
  pub acted : Acted acts p q
  pub at_file : All (IsActAt m file) acts
  pub made : All (λ e. IsTrue (writes_back e.event)) (own_entries acts)
  pub callers : All (λ e. e.caller ≡ p.caller) (own_entries acts)
  pub locks : lock_acts acts ≡ []
  pub sizes : size_acts acts ≡ []
  pub last : q.last ≡ p.last
  pub begun : q.begun ≡ p.begun

-- From the pass `p` to the pass `q` a walk went on from one block to another, and missed none between them. So many blocks were written with so many bios, this is the first transfer that failed, and this stopped the walk
pub record Walks (m : MountView) (file : FileId) (waits : Bool) (at next : ℕ) (before after : LaneView) (p q : PassView) (written : Written) : Type 0 where
  pub acts : List Act
  pub steps : Steps m file writes_back before after p q acts
  pub begun : q.begun ≡ p.begun
  pub forward : at ≤ next
  pub ascending : AsksAscend waits at (own_entries acts)
  pub ends : asks_end waits at (own_entries acts) ≤ next
  pub blocks : written.blocks ≡ all_written (own_entries acts)
  pub few : written.blocks ≤ next - at
  pub bios : written.bios ≡ loans_in acts
  pub few_bios : written.bios ≤ next - at
  pub enough_bios : written.blocks ≤ written.bios * 16
  pub returned : length (dones_in (own_entries acts)) ≡ loans_in acts
  pub failed : written.failed ≡ first_failed (own_entries acts)
  pub met : (b : ℕ) → at ≤ b → b < next → IsMet waits m file b p acts
  pub stops : IfSome written.fault StopsWriteback
  pub cause : IfSome written.fault (IsCaused m (own_entries acts))

-- The same within a walk up to another block, whose stripes from the next block on are still to be met: so many turns it took at most
pub record WalksOn (m : MountView) (file : FileId) (waits : Bool) (to at next : ℕ) (before after : LaneView) (p q : PassView) (written : Written) : Type 0 where
  pub walks : Walks m file waits at next before after p q written
  pub turns : turns_in walks.acts + stripes_met next to ≤ write_turns at to written.bios (refused_loans (own_entries walks.acts)) written.fault
  pub sought : (start : PassView) (before : List Act) → IsPassOf m start → Acted before start p → AsksDue m file start before walks.acts

-- The same over blocks of one folio, the first of which a look found: with that look it took so many turns at most
pub record WalksFolio (m : MountView) (file : FileId) (waits : Bool) (at next : ℕ) (before after : LaneView) (p q : PassView) (written : Written) : Type 0 where
  pub walks : Walks m file waits at next before after p q written
  pub turns : 1 + turns_in walks.acts ≤ 5 * written.bios + 4 * refused_loans (own_entries walks.acts) + last_turns written.fault
  pub sought : AsksFrom m file at p walks.acts

-- nothing was written, and this stopped a walk
abbrev pub nothing_written : Option Fault → Written
nothing_written fault = record { blocks = 0; bios = 0; failed = None; fault = fault }

-- what came of a walk that nothing stopped, and of another behind it
abbrev pub both_written : Written → Written → Written
both_written first later = record { blocks = first.blocks + later.blocks; bios = first.bios + later.bios; failed = or_else first.failed later.failed; fault = later.fault }

-- where the folio of a block ends, or a walk that goes beyond the block
abbrev pub folio_end : ℕ → ℕ → ℕ → ℕ
folio_end blocks at to = at + min (blocks - at % blocks) (to - at)
