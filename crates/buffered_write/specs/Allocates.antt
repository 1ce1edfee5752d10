-- What a call does that gives space to the blocks of a range, and each part of it.
use Rattle.std.specs.Prelude.{◌≡◌, ◌⊎◌, ℕ, ◌+◌, ◌-◌, ◌*◌, ◌/◌, ◌%◌, ◌^◌, ◌<◌, ◌≤◌, ◌==◌, nat_le, min, Bool, true, false, if◌then◌else◌, Result, Ok, Err, IfErr, IfOk, IsTrue, All, List, [], ◌∷◌, ◌++◌, length}
use Rattle.iob_base.specs.declared.answer.Answer.{Answer}
use Rattle.iob_base.specs.declared.answer.Fault.{Fault}
use Rattle.iob_base.specs.declared.answer.Fault.TheVariants.{NoMemory, NoSpace, TooFar, Worn}
use Rattle.iob_base.specs.declared.answer.Reply.{Reply}
use Rattle.iob_base.specs.declared.answer.Reply.TheVariants as replied
use Rattle.iob_base.specs.declared.answer.Stop.{Stop}
use Rattle.iob_base.specs.declared.answer.Stop.TheVariants.{Whole}
use Rattle.iob_base.specs.declared.stamp.FileId.{FileId}
use Rattle.io_model.specs.Lawful.{is_lawful_reply}
use Rattle.io_model.specs.Parts.{Span, blocks_met, meets, range_in}
use Rattle.io_model.specs.declared.script.Verb.TheVariants.{Alloc}
use Rattle.fault_device.specs.LaneView.{LaneView}
use Rattle.inode_lock.specs.View.{LockView}
use Rattle.inode_lock.specs.declared.word.Class.TheVariants.{Exclusive}
use Rattle.turn_cell.specs.Stakes.{total}
use Rattle.range_core.specs.EntryStamps.{stamps_in}
use Rattle.range_core.specs.declared.entry.Entry.{Entry}
use Rattle.range_core.specs.declared.entry.Event.{Event}
use Rattle.range_core.specs.declared.entry.Event.TheVariants.{Preallocate}
use Rattle.range_core.specs.declared.entry.Outcome.{Outcome}
use Rattle.range_core.specs.declared.entry.Outcome.TheVariants.{Refused, Took}
use Rattle.range_core.specs.declared.fault.EventFault.{EventFault}
use Rattle.range_core.specs.declared.fault.EventFault.TheVariants as refusal
use Rattle.mount_parts.specs.MountView.{MountView, file_at, stripe_at}
use Rattle.mini_fs.specs.Acts.{Act, HasLeft, HasTaken, bios_in, made_in, own_entries}
use Rattle.mini_fs.specs.Acts.Act.{Leave, Number, Take, Turn}
use Rattle.mini_fs.specs.CallActs.{CallActs, loans_in, lock_acts, size_acts}
use Rattle.mini_fs.specs.Mappings.{file_end}
use Rattle.mini_fs.specs.PageTurns.{entry_by}
use Rattle.mini_fs.specs.PassView.{PassView}
use Rattle.call_parts.specs.Causes.{HasOne, IsCaused}
use Rattle.call_parts.specs.Steps.{IsPlaced, Steps}

-- the events that give space to blocks
abbrev pub allocates : Event → Bool
allocates (Preallocate block blocks) = true
allocates _ = false

-- where the part of a run of blocks ends that begins with a block: with its stripe, or with the run
abbrev pub stripe_end : ℕ → ℕ → ℕ
stripe_end to at = min to ((at / 64 + 1) * 64)

-- how an allocation tells why a turn gave no space. A preallocation is refused for nothing else
abbrev pub space_fault : EventFault → Fault
space_fault (refusal.Worn cookie) = Worn cookie
space_fault (refusal.NoSpace wanted found) = NoSpace wanted found
space_fault _ = NoMemory

-- how many blocks took space, in one turn and in all turns of some entries
abbrev pub blocks_taken : Outcome → ℕ
blocks_taken (Took pairs) = length pairs
blocks_taken _ = 0

abbrev pub all_taken : List Entry → ℕ
all_taken entries = total (λ e. blocks_taken e.outcome) entries

module _ (caller to : ℕ) where
  -- An entry gave space to those blocks that had none of the part that begins with a block
  pub record GivesPart (at : ℕ) (e : Entry) : Type 0 where
    pub some : at < to
    pub pairs : List (ℕ × ℕ)
    pub entry_is : e ≡ entry_by caller (Preallocate at (stripe_end to at - at)) (Took pairs)

  -- An entry is the refusal of such a part, which is told by this fault
  pub record RefusesPart (at : ℕ) (e : Entry) (fault : Fault) : Type 0 where
    pub some : at < to
    pub refused : EventFault
    pub entry_is : e ≡ entry_by caller (Preallocate at (stripe_end to at - at)) (Refused refused)
    pub fault_is : fault ≡ space_fault refused

  -- the entries gave space to the parts from one block up to another, one entry each, in order
  abbrev pub GiveParts : ℕ → ℕ → List Entry → Type 0
  GiveParts from at [] = from ≡ at
  GiveParts from at (e ∷ entries) = GivesPart from e × GiveParts (stripe_end to from) at entries

  -- the entries after those of the parts up to a block: none at the end of the run, or the one refusal
  abbrev pub EndsParts : ℕ → Result ℕ Fault → List Entry → Type 0
  EndsParts at (Ok count) last = (last ≡ []) × (at ≡ to)
  EndsParts at (Err fault) last = (e : Entry) × (last ≡ e ∷ []) × RefusesPart at e fault

  -- the entry of a part, and what came of it: how many blocks took space, no more than it has, or why none did
  abbrev pub CameOfPart : ℕ → Entry → Result ℕ Fault → Type 0
  CameOfPart at e (Ok count) = GivesPart at e × (count ≡ blocks_taken e.outcome) × (count ≤ stripe_end to at - at)
  CameOfPart at e (Err fault) = RefusesPart at e fault

  -- The entries of a run of blocks from one on gave space to its parts, in order, up to its end or to the first refusal
  pub record ComesTo (from : ℕ) (came : Result ℕ Fault) (entries : List Entry) : Type 0 where
    pub given : List Entry
    pub last : List Entry
    pub at : ℕ
    pub entries_are : entries ≡ given ++ last
    pub parts : GiveParts from at given
    pub ends : EndsParts at came last

-- an event that gives space to a run of blocks is at the stripe in which they all lie
abbrev pub IsInStripe : MountView → FileId → ℕ → Event → Type 0
IsInStripe m file stripe (Preallocate block blocks) = (stripe ≡ stripe_at m file block) × (block % 64 + blocks ≤ 64)
IsInStripe m file stripe _ = Unit {0}

abbrev pub StaysInStripe : MountView → FileId → Act → Type 0
StaysInStripe m file (Turn stripe others own) = IsInStripe m file stripe own.event
StaysInStripe m file _ = Unit {0}

-- One turn at the part of a run of blocks that begins with a block, whatever lane the call has
pub record AllocatesPart (m : MountView) (file : FileId) (to at : ℕ) (p q : PassView) (came : Result ℕ Fault) : Type 0 where
  pub acts : List Act
  pub steps : (lane : LaneView) → Steps m file allocates lane lane p q acts
  pub entry : Entry
  pub entries : own_entries acts ≡ entry ∷ []
  pub stays : All (StaysInStripe m file) acts
  pub cause : IfErr came (IsCaused m (own_entries acts))
  pub part : CameOfPart p.caller to at entry came

-- The parts of a run of blocks from one up to another got space, a turn each, in order: so many blocks took some
pub record HasAllocated (m : MountView) (file : FileId) (to from at : ℕ) (p q : PassView) (count : ℕ) : Type 0 where
  pub acts : List Act
  pub steps : (lane : LaneView) → Steps m file allocates lane lane p q acts
  pub parts : GiveParts p.caller to from at (own_entries acts)
  pub stays : All (StaysInStripe m file) acts
  pub count_is : count ≡ all_taken (own_entries acts)
  pub few : count ≤ at - from

-- The blocks of a run from one on got space, a turn for each part, up to its end or to the first refusal
pub record AllocatesRun (m : MountView) (file : FileId) (from to : ℕ) (p q : PassView) (came : Result ℕ Fault) : Type 0 where
  pub acts : List Act
  pub steps : (lane : LaneView) → Steps m file allocates lane lane p q acts
  pub comes : ComesTo p.caller to from came (own_entries acts)
  pub stays : All (StaysInStripe m file) acts
  pub cause : IfErr came (IsCaused m (own_entries acts))
  pub count : IfOk came (λ n. (n ≡ all_taken (own_entries acts)) × (n ≤ to - from))

-- They did under the exclusive class of the file, which was taken before and left after
pub record AllocatesLocked (m : MountView) (file : FileId) (from to : ℕ) (p q : PassView) (came : Result ℕ Fault) : Type 0 where
  pub locked : PassView
  pub done : PassView
  pub home : LockView
  pub held : LockView
  pub next : LockView
  pub taken : HasTaken file Exclusive home held p locked
  pub run : AllocatesRun m file from to locked done came
  pub left : HasLeft file Exclusive held next done q

-- All that the acts of a call do but for its number, they do while the pass holds the exclusive class of a file
pub record WorksExclusive (file : FileId) (call : ℕ) (acts : List Act) : Type 0 where
  pub home : LockView
  pub held : LockView
  pub next : LockView
  pub work : List Act
  pub acts_are : acts ≡ Number call ∷ Take file Exclusive home held ∷ (work ++ Leave file Exclusive held next ∷ [])
  pub locks : lock_acts acts ≡ Take file Exclusive home held ∷ Leave file Exclusive held next ∷ []

-- A block is in the run of an entry that gave space to those of its blocks that had none
pub record IsGivenBy (caller b : ℕ) (e : Entry) : Type 0 where
  pub from : ℕ
  pub blocks : ℕ
  pub pairs : List (ℕ × ℕ)
  pub entry_is : e ≡ entry_by caller (Preallocate from blocks) (Took pairs)
  pub low : from ≤ b
  pub high : b < from + blocks

-- the bytes of a file from an offset on that a call asks for, up to the file's end
abbrev pub asked_range : MountView → FileId → ℕ → ℕ → Span
asked_range m file off length = range_in (file_end m file) off length

-- the first block of such a range, and the one after its last
abbrev pub first_block : MountView → ℕ → ℕ
first_block m off = off / m.geometry.block_size

abbrev pub blocks_end : MountView → FileId → ℕ → ℕ → ℕ
blocks_end m file off length = first_block m off + blocks_met m.geometry.block_size (asked_range m file off length)

-- what an allocation replies whose turns came to this
abbrev pub count_reply : Result ℕ Fault → Reply
count_reply (Ok count) = replied.Ok count Whole
count_reply (Err fault) = replied.Err fault 0

-- what an allocation replies that asks for so many bytes from an offset on: that nothing was done where none are asked, that it is too far at or past the end, and else what its turns came to
abbrev pub alloc_reply : ℕ → ℕ → ℕ → Result ℕ Fault → Reply
alloc_reply end off asked came = if asked == 0 then replied.Ok 0 Whole else (if nat_le end off then replied.Err (TooFar off end) 0 else count_reply came)

-- From the pass `p` to the pass `q` each block with bytes of a range of a file got space that had none, by one turn a stripe, in order, up to the first refusal. All turns were made under the exclusive class, or there was none. No bio was sent and no stamp left, and the reply counts the blocks that took space, or tells the refusal
pub record Allocates (m : MountView) (file : FileId) (call off asked : ℕ) (p q : PassView) (answer : Answer) : Type 0 where
  pub acts : List Act
  pub came : Result ℕ Fault
  pub did : CallActs m file allocates p q acts
  pub callers : All (λ e. e.caller ≡ p.caller) (own_entries acts)
  pub placed : All (IsPlaced m file) acts
  pub class : ((own_entries acts ≡ []) × (lock_acts acts ≡ [])) ⊎ WorksExclusive file call acts
  pub sizes : size_acts acts ≡ []
  pub stamps : stamps_in m.geometry.block_size (own_entries acts) ≡ []
  pub bios : answer.bios ≡ min (loans_in acts) (2 ^ 64 - 1)
  pub none : answer.bios ≡ 0
  pub ran : bios_in acts ≡ loans_in acts
  pub comes : ComesTo p.caller (blocks_end m file off asked) (first_block m off) came (own_entries acts)
  pub count : IfOk came (λ n. n ≡ all_taken (own_entries acts))
  pub reply : answer.reply ≡ alloc_reply (file_end m file) off asked came
  pub all : (n : ℕ) (stop : Stop) → answer.reply ≡ replied.Ok n stop → (b : ℕ) → IsTrue (meets m.geometry.block_size (asked_range m file off asked) b) → HasOne (IsGivenBy p.caller b) (made_in (stripe_at m file b) acts)
  pub lawful : IsTrue (is_lawful_reply m.geometry.grain m.geometry.block_size (file_at m file).blocks (asked_range m file off asked) true (Alloc off asked) answer.reply)
  pub cause : IfErr came (IsCaused m (own_entries acts))
