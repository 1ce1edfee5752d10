-- How the dirty blocks of one folio go out together and come back.
use Rattle.std.specs.Prelude.{◌≡◌, ◌⊎◌, ℕ, suc, ◌+◌, ◌-◌, ◌*◌, ◌%◌, ◌<◌, ◌≤◌, ◌==◌, Bool, false, if◌then◌else◌, Option, Some, None, IfSome, List, [], ◌∷◌, ◌++◌, length}
use Rattle.iob_base.specs.declared.answer.Fault.{Fault}
use Rattle.iob_base.specs.declared.answer.Fault.TheVariants as answer
use Rattle.iob_base.specs.declared.stamp.FileId.{FileId}
use Rattle.iob_base.specs.declared.stamp.Op.TheVariants.{Write}
use Rattle.fault_device.specs.LaneView.{LaneView}
use Rattle.fault_device.specs.declared.lane.Done.{Done}
use Rattle.bio_pages.specs.Lists.{AreRun}
use Rattle.bio_pages.specs.Running.{IsRun}
use Rattle.bio_pages.specs.declared.bio.Bio.{Bio}
use Rattle.turn_cell.specs.Stakes.{total}
use Rattle.range_core.specs.EntryCounts.{one_where}
use Rattle.range_core.specs.declared.fault.EventFault.{EventFault}
use Rattle.range_core.specs.declared.fault.EventFault.TheVariants.{Away, Settled, Unattached, Worn}
use Rattle.range_core.specs.declared.lending.Lender.TheVariants.{Writeback}
use Rattle.mount_parts.specs.MountView.{MountView, stripe_at}
use Rattle.mini_fs.specs.Acts.{Act, Acted, HasRun, bios_in, closed_in, made_in, opened_in, own_entries}
use Rattle.mini_fs.specs.CallActs.{IsStripeOf, loans_in}
use Rattle.mini_fs.specs.Loans.{CarriesLoan}
use Rattle.mini_fs.specs.PassView.{IsPassOf, PassView}
use Rattle.mini_fs.specs.TicketView.{TicketView}
use Rattle.mini_fs.specs.Tickets.{IsTicketOf}
use Rattle.call_parts.specs.Causes.{HasOne, IsCaused}
use Rattle.call_parts.specs.Steps.{ServedBy, dones_in}
use Rattle.writeback_ioend.specs.Walks.{Moves, asks_end}
use Rattle.writeback_ioend.specs.Writebacks.{AsksAscend, AsksDue, AsksFrom, IsAway, IsDueState, IsSettled, StopsWriteback, TookBack, WasFound, all_written, first_failed, refused_loans, turns_in}
use Rattle.writeback_ioend.specs.declared.lend.Piece.{Piece}
use Rattle.writeback_ioend.specs.declared.lend.Piece.TheVariants.{Lent, On, Ended}

-- a block goes with a bio
abbrev pub Carries : ℕ → Bio TicketView → Type 0
Carries b bio = (bio.block ≤ b) × (b < bio.block + length bio.parts)

-- how many blocks go with some bios, and how many of their tickets are of a stripe
abbrev pub carried_by : List (Bio TicketView) → ℕ
carried_by bios = total (λ (b : Bio TicketView). length b.parts) bios

abbrev pub tickets_at : ℕ → List (Bio TicketView) → ℕ
tickets_at k bios = total (λ (b : Bio TicketView). one_where (b.ticket.stripe == k)) bios

-- A bio is to go with what was lent of a stripe of the file on its ticket for a write of it, by the loan of this number. Its blocks cross no border of a stripe
pub record IsLent (m : MountView) (file : FileId) (number : ℕ) (b : Bio TicketView) : Type 0 where
  pub loan : CarriesLoan m file Writeback Write number b
  pub here : IsStripeOf m file b.ticket.stripe
  pub folds : b.block % 64 + length b.parts ≤ 64

-- the same of some bios, which have the slots from one on
abbrev pub AreLent : MountView → FileId → ℕ → List ℕ → List (Bio TicketView) → Type 0
AreLent m file slot [] [] = Unit {0}
AreLent m file slot (number ∷ numbers) (b ∷ bios) = IsLent m file number b × (b.slot ≡ slot) × AreLent m file (suc slot) numbers bios
AreLent m file slot _ _ = ⊥

-- the tickets of these bios are tickets of the pass
abbrev pub HaveTickets : PassView → List (Bio TicketView) → Type 0
HaveTickets p [] = Unit {0}
HaveTickets p (b ∷ bios) = IsTicketOf p b.ticket × HaveTickets p bios

-- a bio came back that went out with a loan of this number, after the transfer that `done` tells
pub record CameBack (m : MountView) (file : FileId) (number : ℕ) (back : Bio TicketView) (done : Done) : Type 0 where
  pub sent : Bio TicketView
  pub lent : IsLent m file number sent
  pub run : IsRun sent back done

-- the same of some bios
abbrev pub HaveComeBack : MountView → FileId → List ℕ → List (Bio TicketView) → List Done → Type 0
HaveComeBack m file [] [] [] = Unit {0}
HaveComeBack m file (number ∷ numbers) (b ∷ bios) (done ∷ dones) = CameBack m file number b done × HaveComeBack m file numbers bios dones
HaveComeBack m file _ _ _ = ⊥

-- a transfer, where it failed
abbrev pub failed_now : Done → Option Done
failed_now done = if done.failed then Some done else None

-- From the pass `p` to the pass `q` a walk lent dirty blocks from one on, up to another, and these bios are to go with them, from this slot on, by the loans of these numbers. It missed no block between, and made no transfer. This stopped it
pub record Lends (m : MountView) (file : FileId) (waits : Bool) (slot at next : ℕ) (p q : PassView) (numbers : List ℕ) (bios : List (Bio TicketView)) (fault : Option Fault) : Type 0 where
  pub acts : List Act
  pub moves : Moves m file p q acts
  pub out : (k : ℕ) → opened_in k acts ≡ closed_in k acts + tickets_at k bios
  pub none_run : bios_in acts ≡ 0
  pub loans : loans_in acts ≡ length bios
  pub none_back : dones_in (own_entries acts) ≡ []
  pub none_written : all_written (own_entries acts) ≡ 0
  pub none_failed : first_failed (own_entries acts) ≡ None
  pub forward : at ≤ next
  pub ascending : AsksAscend waits at (own_entries acts)
  pub ends : asks_end waits at (own_entries acts) ≤ next
  pub many : length bios ≤ next - at
  pub few : carried_by bios ≤ next - at
  pub short : carried_by bios ≤ length bios * 16
  pub lent : AreLent m file slot numbers bios
  pub met : (b : ℕ) → at ≤ b → b < next → WasFound IsSettled m file b p acts ⊎ (HasOne (Carries b) bios ⊎ ((waits ≡ false) × WasFound IsAway m file b p acts))
  pub stops : IfSome fault StopsWriteback
  pub cause : IfSome fault (IsCaused m (own_entries acts))

-- how often acts asked for a loan, if so many bios are to go with what they got
abbrev pub tries_in : List (Bio TicketView) → List Act → ℕ
tries_in bios acts = length bios + refused_loans (own_entries acts)

-- One turn at most, which lent nothing: a look, or one that gave space
pub record OneTurn (m : MountView) (file : FileId) (waits : Bool) (at next : ℕ) (p q : PassView) (fault : Option Fault) : Type 0 where
  pub lends : Lends m file waits 0 at next p q [] [] fault
  pub turns : turns_in lends.acts ≤ 1
  pub sought : (start : PassView) (before : List Act) → AsksDue m file start before lends.acts

-- A look for the next block below another that is dirty or away, or a walk that is there
pub record LooksOn (m : MountView) (file : FileId) (waits : Bool) (at next end : ℕ) (p q : PassView) : Type 0 where
  pub one : OneTurn m file waits at next p q None
  pub due : next < end → WasFound IsDueState m file next p one.lends.acts

-- One try to lend
pub record Tries (m : MountView) (file : FileId) (waits : Bool) (slot at next : ℕ) (p q : PassView) (numbers : List ℕ) (bios : List (Bio TicketView)) (fault : Option Fault) : Type 0 where
  pub lends : Lends m file waits slot at next p q numbers bios fault
  pub turns : turns_in lends.acts ≤ tries_in bios lends.acts
  pub sought : AsksFrom m file at p lends.acts
  pub tried : fault ≡ None → 0 < tries_in bios lends.acts

-- Tries to lend what is dirty in a folio, each with a look for the next block that has to be written; a folio in which nothing stopped the walk has had one
pub record Seeks (m : MountView) (file : FileId) (waits : Bool) (at next end : ℕ) (p q : PassView) (numbers : List ℕ) (bios : List (Bio TicketView)) : Type 0 where
  pub lends : Lends m file waits 0 at next p q numbers bios None
  pub turns : turns_in lends.acts ≤ 2 * tries_in bios lends.acts
  pub tried : at < next → 0 < tries_in bios lends.acts
  pub sought : AsksFrom m file at p lends.acts
  pub due : (start : PassView) (before : List Act) → IsPassOf m start → Acted before start p → WasFound IsDueState m file at start before → next < end → WasFound IsDueState m file next start (before ++ lends.acts)

pub record Sought (m : MountView) (file : FileId) (waits : Bool) (at next : ℕ) (p q : PassView) (numbers : List ℕ) (bios : List (Bio TicketView)) (fault : Option Fault) : Type 0 where
  pub lends : Lends m file waits 0 at next p q numbers bios fault
  pub sought : AsksFrom m file at p lends.acts
  pub turns : turns_in lends.acts ≤ 2 * tries_in bios lends.acts
  pub tried : fault ≡ None → 0 < tries_in bios lends.acts

-- From the pass `p` to the pass `q` a walk took back what went with some bios, in order, after the transfers that `dones` tells, and closed their tickets. So many blocks were written, and this is the first transfer that failed
pub record Returns (m : MountView) (file : FileId) (p q : PassView) (bios : List (Bio TicketView)) (dones : List Done) (blocks : ℕ) (failed : Option Done) : Type 0 where
  pub acts : List Act
  pub moves : Moves m file p q acts
  pub none_opened : (k : ℕ) → opened_in k acts ≡ 0
  pub closed : (k : ℕ) → closed_in k acts ≡ tickets_at k bios
  pub none_run : bios_in acts ≡ 0
  pub none_lent : loans_in acts ≡ 0
  pub turns : turns_in acts ≡ length bios
  pub none_sought : (start : PassView) (before : List Act) → AsksDue m file start before acts
  pub dones_are : dones_in (own_entries acts) ≡ dones
  pub ascending : (waits : Bool) (at : ℕ) → AsksAscend waits at (own_entries acts)
  pub ends : (waits : Bool) (at : ℕ) → asks_end waits at (own_entries acts) ≡ at
  pub written : blocks ≡ all_written (own_entries acts)
  pub few : blocks ≤ carried_by bios
  pub failed_is : failed ≡ first_failed (own_entries acts)
  pub back : (b : ℕ) → HasOne (Carries b) bios → HasOne (TookBack b) (made_in (stripe_at m file b) acts)

-- From the pass `p` to the pass `q` some bios were run on a lane and came back, what went with them was taken back, and their tickets were closed. So many blocks were written, and this is the first transfer that failed
pub record Sends (m : MountView) (file : FileId) (before after : LaneView) (p q : PassView) (bios : List (Bio TicketView)) (blocks : ℕ) (failed : Option Done) : Type 0 where
  pub middle : PassView
  pub back : List (Bio TicketView)
  pub dones : List Done
  pub ran : HasRun (length bios) p middle
  pub run : AreRun bios back dones
  pub lane : ServedBy before after dones
  pub returns : Returns m file middle q back dones blocks failed

-- what stops a walk of which a turn was refused for this, if anything does
abbrev pub stopped_by : EventFault → Option Fault
stopped_by (Away block ticket) = None
stopped_by (Settled block) = None
stopped_by (Unattached block) = None
stopped_by (Worn cookie) = Some (answer.Worn cookie)
stopped_by _ = Some answer.NoMemory

-- how a walk goes on at a block that was refused for this
abbrev pub passed_at : Bool → ℕ → EventFault → Piece
passed_at waits at (Settled block) = On (at + 1)
passed_at waits at (Away block ticket) = if waits then Ended None else On (at + 1)
passed_at waits at fault = Ended (stopped_by fault)

module _ (m : MountView) (file : FileId) (waits : Bool) (slot at end : ℕ) (p q : PassView) where
  -- A run of dirty blocks from one on, below another, was lent, and is to go with this bio
  pub record LentOne (number : ℕ) (bio : Bio TicketView) : Type 0 where
    pub tries : Tries m file waits slot at (at + length bio.parts) p q (number ∷ []) (bio ∷ []) None
    pub within : at + length bio.parts ≤ end
    pub ticket : IsTicketOf q bio.ticket

  -- The block was passed by, as it was found
  pub record PassedOn (next : ℕ) : Type 0 where
    pub tries : Tries m file waits slot at next p q [] [] None
    pub within : next ≤ end

  -- what came of a try to lend dirty blocks from one on, below another
  abbrev pub Came : Piece → Type 0
  Came (Lent number bio) = LentOne number bio
  Came (On next) = PassedOn next
  Came (Ended fault) = Tries m file waits slot at at p q [] [] fault
