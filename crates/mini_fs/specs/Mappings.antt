-- How a mount maps ranges of its files, after the operations guide of iomap.
use Rattle.std.specs.Prelude.{◌≡◌, ℕ, ◌+◌, ◌*◌, ◌/◌, ◌%◌, ◌<◌, ◌≤◌, ◌⊎◌, Bool, true, false, ◌&&◌, nat_lt, not, min, All, Option, Some, None, IfSome, IsSomeAnd, slice_get, List, [], ◌∷◌, ◌++◌, Result, Ok, Err, if◌then◌else◌}
use Rattle.iob_base.specs.declared.stamp.FileId.{FileId}
use Rattle.iob_base.specs.declared.stamp.Mode.TheVariants.{Cached, Dax}
use Rattle.io_model.specs.declared.file.Extent.{Extent}
use Rattle.io_model.specs.declared.file.Kind.{Kind}
use Rattle.io_model.specs.declared.file.Kind.TheVariants as kind
use Rattle.iomap_core.specs.Mappings.{IsSameMapping, found_stale, stale-same}
use Rattle.iomap_core.specs.declared.mapping.Flags.{Flags}
use Rattle.iomap_core.specs.declared.mapping.Iomap.{Iomap}
use Rattle.iomap_core.specs.declared.mapping.IomapType.{IomapType}
use Rattle.iomap_core.specs.declared.mapping.IomapType.TheVariants.{Hole, Delalloc, Mapped, Unwritten}
use Rattle.iomap_core.specs.declared.ops.BeginFault.{BeginFault}
use Rattle.iomap_core.specs.declared.ops.BeginFault.TheVariants.{NotOverwrite}
use Rattle.iomap_core.specs.declared.ops.BeginFault.TheVariants as begin
use Rattle.range_core.specs.Kinds.{has_space, is_hole, is_mapped}
use Rattle.range_core.specs.KnownSamples.{WasGiven}
use Rattle.range_core.specs.Spots.{blocks_met}
use Rattle.range_core.specs.declared.entry.Entry.{Entry}
use Rattle.range_core.specs.declared.fault.EventFault.{EventFault}
use Rattle.range_core.specs.declared.fault.EventFault.TheVariants as event
use Rattle.range_core.specs.declared.sample.Sample.{Sample}
use Rattle.turn_cell.specs.Views.{SeatView}
use Rattle.mount_parts.specs.MountView.{MountView, file_at}
use Rattle.mini_fs.specs.MapTurns.{MadeTurns, MapTurn, turns_of}
use Rattle.mini_fs.specs.MapTurns.MapTurn.{Look, Place, Promise, TakeBack}
use Rattle.mini_fs.specs.Turns.{block_at}
use Rattle.mini_fs.specs.PassView.{IsPassOf, PassView}
use Rattle.mini_fs.specs.declared.begun.Begun.{Begun}

-- where the bytes of a file end
abbrev pub file_end : MountView → FileId → ℕ
file_end m file = (file_at m file).blocks * m.geometry.block_size

-- how many blocks so many bytes from a position on meet, up to the file's end
abbrev pub blocks_asked : MountView → FileId → ℕ → ℕ → ℕ
blocks_asked m file pos length = blocks_met m.geometry.block_size pos (min (pos + length) (file_end m file))

-- the type of a mapping of blocks of this kind
abbrev pub type_of : Kind → IomapType
type_of kind.Hole = Hole
type_of kind.Delalloc = Delalloc
type_of (kind.Unwritten d) = Unwritten
type_of (kind.Mapped d) = Mapped

-- where blocks of this kind begin on the device, in bytes
abbrev pub address_of : ℕ → Kind → Option ℕ
address_of size kind.Hole = None
address_of size kind.Delalloc = None
address_of size (kind.Unwritten d) = Some (d * size)
address_of size (kind.Mapped d) = Some (d * size)

-- the mapping that tells of the extent of a sample
abbrev pub mapping_of : MountView → FileId → Bool → Sample → Iomap
mapping_of m file new sample =
    record {
      file = file;
      addr = address_of m.geometry.block_size sample.extent.kind;
      offset = sample.extent.block * m.geometry.block_size;
      length = sample.extent.length * m.geometry.block_size;
      kind = type_of sample.extent.kind;
      flags = record { new = new; stale = false };
      validity_cookie = sample.cookie;
    }

-- the same with its sample
abbrev pub begun_of : MountView → FileId → Bool → Sample → Begun
begun_of m file new sample = record { iomap = mapping_of m file new sample; sample = sample }

-- a pass with another mapping that it began
abbrev pub with_begun : PassView → Option Begun → PassView
with_begun p begun = record p { begun = begun }

abbrev pub mapping_in : Option Begun → Option Iomap
mapping_in None = None
mapping_in (Some begun) = Some begun.iomap

abbrev pub sample_in : Option Begun → Option Sample
sample_in None = None
sample_in (Some begun) = Some begun.sample

-- The blocks of an extent are blocks of the file, at least one, and lie in one stripe
pub record LiesInStripe (m : MountView) (file : FileId) (extent : Extent) : Type 0 where
  pub some : 0 < extent.length
  pub within : extent.block + extent.length ≤ (file_at m file).blocks
  pub stripe : extent.block % 64 + extent.length ≤ 64

-- A mapping tells of its sample, whose extent lies in one stripe of the file
pub record Tells (m : MountView) (begun : Begun) : Type 0 where
  pub iomap_is : begun.iomap ≡ mapping_of m begun.iomap.file begun.iomap.flags.new begun.sample
  pub lies : LiesInStripe m begun.iomap.file begun.sample.extent

-- The mapping of this file begins at this block, and tells of its sample
pub record TellsFrom (m : MountView) (file : FileId) (b : ℕ) (begun : Begun) : Type 0 where
  pub new : Bool
  pub is : begun ≡ begun_of m file new begun.sample
  pub starts : begun.sample.extent.block ≡ b
  pub lies : LiesInStripe m file begun.sample.extent

-- an entry that the pass has seen at a stripe gave the sample
abbrev pub IsGivenAt : PassView → ℕ → Sample → Type 0
IsGivenAt p stripe sample = IsSomeAnd (slice_get p.stripes stripe) (λ (seat : SeatView Entry). WasGiven sample seat.seen)

-- The pass began this mapping last and has not ended it. The stale flag may have been set since
pub record IsOpen (m : MountView) (p : PassView) (iomap : Iomap) : Type 0 where
  pub of : IsPassOf m p
  pub same : IsSameMapping (mapping_in p.begun) iomap
  pub tells : IfSome p.begun (Tells m)

-- only a pass of the mount has a mapping of it open
pub open-is-of : (m : MountView) (p : PassView) (iomap : Iomap) → IsOpen m p iomap → IsPassOf m p
open-is-of m p iomap is = is.of

-- a mapping that is found stale is still open
pub stale-is-open : (m : MountView) (p : PassView) (iomap : Iomap) → IsOpen m p iomap → IsOpen m p (found_stale iomap)
stale-is-open m p iomap is = record { of = is.of; same = stale-same (mapping_in p.begun) iomap is.same; tells = is.tells }

-- what mappings are wanted for: to look at blocks, to write them in the cache, to write them on the device, to write only those that are mapped there
pub data Wish : Type 0 where
  ToLook : Wish
  ToWrite : Wish
  ToWriteDirect : Wish
  ToOverwrite : Wish

-- flags of which only these are set
abbrev pub no_flags : Flags
no_flags = record { write = false; zero = false; report = false; direct = false; overwrite_only = false; dax = false }

abbrev pub report_flags : Flags
report_flags = record no_flags { report = true }

abbrev pub zero_flags : Flags
zero_flags = record no_flags { zero = true }

abbrev pub write_flags : Flags
write_flags = record no_flags { write = true }

abbrev pub direct_flags : Flags
direct_flags = record write_flags { direct = true }

abbrev pub overwrite_flags : Flags
overwrite_flags = record direct_flags { overwrite_only = true }

abbrev pub dax_flags : Flags
dax_flags = record write_flags { dax = true }

abbrev pub SetsNoWrite : Flags → Type 0
SetsNoWrite flags = (flags ≡ no_flags) ⊎ (flags ≡ report_flags) ⊎ (flags ≡ zero_flags)

abbrev pub SetsWrite : Flags → Type 0
SetsWrite flags = (flags ≡ write_flags) ⊎ (flags ≡ direct_flags) ⊎ (flags ≡ overwrite_flags)

-- a file may be mapped with these flags: with a write, and with a direct one, only where it is cached, with a write past the cache only where it has none, and without a write always
abbrev pub Allows : MountView → FileId → Flags → Type 0
Allows m file flags = SetsNoWrite flags ⊎ (SetsWrite flags × ((file_at m file).mode ≡ Cached)) ⊎ ((flags ≡ dax_flags) × ((file_at m file).mode ≡ Dax))

-- what flags wish for
abbrev pub wish_of : Flags → Wish
wish_of flags =
    if not flags.write then ToLook else (if flags.dax then ToLook else (if not flags.direct then ToWrite else (if flags.overwrite_only then ToOverwrite else ToWriteDirect)))

-- the fault of a begin whose turn was refused for this. None where the begin tries again
abbrev pub begin_fault : EventFault → Option BeginFault
begin_fault (event.Worn cookie) = Some (begin.Worn cookie)
begin_fault event.NoMemory = Some begin.NoMemory
begin_fault (event.NoSpace wanted found) = Some (begin.NoSpace wanted found)
begin_fault _ = None

-- a begin's fault is its answer, and without one there is none yet
abbrev pub answer_in : Option BeginFault → Option (Result Begun BeginFault)
answer_in None = None
answer_in (Some refusal) = Some (Err refusal)

abbrev pub refusal_of : EventFault → Option (Result Begun BeginFault)
refusal_of fault = answer_in (begin_fault fault)

module _ (m : MountView) (file : FileId) (b most : ℕ) where
  -- One look, whose extent is mapped
  pub record IsLook (turns : List MapTurn) (answer : Result Begun BeginFault) : Type 0 where
    pub sample : Sample
    pub turns_are : turns ≡ Look b most sample ∷ []
    pub answer_is : answer ≡ Ok (begun_of m file false sample)

  -- One look, whose extent is mapped where its block was mapped to the device, and refused where it was not
  pub record IsOverwrite (turns : List MapTurn) (answer : Result Begun BeginFault) : Type 0 where
    pub sample : Sample
    pub turns_are : turns ≡ Look b most sample ∷ []
    pub answer_is : answer ≡ (if is_mapped sample.extent.kind then Ok (begun_of m file false sample) else Err (NotOverwrite b))

  -- what a promise of space answered gives the begin its answer
  abbrev pub AnswersPromise : Result Sample EventFault → Result Begun BeginFault → Type 0
  AnswersPromise (Ok promised) answer = answer ≡ Ok (begun_of m file true promised)
  AnswersPromise (Err fault) answer = (refusal : BeginFault) × (begin_fault fault ≡ Some refusal) × (answer ≡ Err refusal)

  -- a look that found no hole
  pub record FoundUsed (turns : List MapTurn) (answer : Result Begun BeginFault) : Type 0 where
    pub sample : Sample
    pub used : is_hole sample.extent.kind ≡ false
    pub turns_are : turns ≡ Look b most sample ∷ []
    pub answer_is : answer ≡ Ok (begun_of m file false sample)

  -- a look that found a hole, to which space was to be promised as far as there was some
  pub record AskedPromise (turns : List MapTurn) (answer : Result Begun BeginFault) : Type 0 where
    pub sample : Sample
    pub promise : Result Sample EventFault
    pub hole : sample.extent.kind ≡ kind.Hole
    pub turns_are : turns ≡ Look b most sample ∷ Promise sample sample.extent.length promise ∷ []
    pub answer_is : AnswersPromise promise answer

  -- the last try of a begin of a write
  abbrev pub EndsWrite : List MapTurn → Result Begun BeginFault → Type 0
  EndsWrite turns answer = FoundUsed turns answer ⊎ AskedPromise turns answer

-- A try whose sample was stale once space was to be promised: the sample, and the cookie then
pub record StaleTry : Type 0 where
  pub seen : Sample
  pub now : ℕ

abbrev pub stale_turns : ℕ → ℕ → StaleTry → List MapTurn
stale_turns b most t = Look b most t.seen ∷ Promise t.seen t.seen.extent.length (Err (event.Stale t.seen.cookie t.now)) ∷ []

abbrev pub FoundHole : StaleTry → Type 0
FoundHole t = t.seen.extent.kind ≡ kind.Hole

-- Tries of a write that were stale
pub record AreStale (b most : ℕ) (turns : List MapTurn) : Type 0 where
  pub tries : List StaleTry
  pub holes : All FoundHole tries
  pub turns_are : turns ≡ turns_of (stale_turns b most) tries

-- one try that was stale, or the last one
abbrev pub IsTryOfWrite : MountView → FileId → ℕ → ℕ → Option (Result Begun BeginFault) → List MapTurn → Type 0
IsTryOfWrite m file b most None turns = (t : StaleTry) × FoundHole t × (turns ≡ stale_turns b most t)
IsTryOfWrite m file b most (Some answer) turns = EndsWrite m file b most turns answer

-- A begin of a write: tries that were stale, and then the last one
pub record IsWrite (m : MountView) (file : FileId) (b most : ℕ) (turns : List MapTurn) (answer : Result Begun BeginFault) : Type 0 where
  pub before : List MapTurn
  pub last : List MapTurn
  pub turns_are : turns ≡ before ++ last
  pub stale : AreStale b most before
  pub ends : EndsWrite m file b most last answer

-- A round that gave sectors: the sample, which had none, and how many blocks took one
pub record PlaceRound : Type 0 where
  pub seen : Sample
  pub taken : ℕ

abbrev pub place_turns : ℕ → ℕ → PlaceRound → List MapTurn
place_turns b most t = Look b most t.seen ∷ Place b t.seen.extent.length (Ok t.taken) ∷ []

abbrev pub LackedSpace : PlaceRound → Type 0
LackedSpace t = has_space t.seen.extent.kind ≡ false

-- there was a round
abbrev pub has_round : List PlaceRound → Bool
has_round [] = false
has_round (_ ∷ _) = true

-- Rounds that gave sectors, of which there was one exactly where the mapping is new
pub record ArePlaced (b most : ℕ) (new : Bool) (turns : List MapTurn) : Type 0 where
  pub rounds : List PlaceRound
  pub lacked : All LackedSpace rounds
  pub new_is : new ≡ has_round rounds
  pub turns_are : turns ≡ turns_of (place_turns b most) rounds

-- a look that found blocks with space
pub record FoundSpace (m : MountView) (file : FileId) (b most : ℕ) (new : Bool) (turns : List MapTurn) (answer : Result Begun BeginFault) : Type 0 where
  pub sample : Sample
  pub space : has_space sample.extent.kind ≡ true
  pub turns_are : turns ≡ Look b most sample ∷ []
  pub answer_is : answer ≡ Ok (begun_of m file new sample)

-- a look that found blocks without space, which were to take sectors and were refused
pub record RefusedSpace (b most : ℕ) (turns : List MapTurn) (answer : Result Begun BeginFault) : Type 0 where
  pub sample : Sample
  pub fault : EventFault
  pub refusal : BeginFault
  pub lacks : has_space sample.extent.kind ≡ false
  pub turns_are : turns ≡ Look b most sample ∷ Place b sample.extent.length (Err fault) ∷ []
  pub refusal_is : begin_fault fault ≡ Some refusal
  pub answer_is : answer ≡ Err refusal

-- one round that gave sectors, or the last one
abbrev pub IsRoundOfDirect : MountView → FileId → ℕ → ℕ → Bool → Option (Result Begun BeginFault) → List MapTurn → Type 0
IsRoundOfDirect m file b most new None turns = (t : PlaceRound) × LackedSpace t × (turns ≡ place_turns b most t)
IsRoundOfDirect m file b most new (Some answer) turns = FoundSpace m file b most new turns answer ⊎ RefusedSpace b most turns answer

-- A begin of a direct write: rounds that gave sectors, then a look that found space, or a round that was refused
pub record IsDirectWrite (m : MountView) (file : FileId) (b most : ℕ) (turns : List MapTurn) (answer : Result Begun BeginFault) : Type 0 where
  pub before : List MapTurn
  pub last : List MapTurn
  pub new : Bool
  pub turns_are : turns ≡ before ++ last
  pub placed : ArePlaced b most new before
  pub ends : FoundSpace m file b most new last answer ⊎ RefusedSpace b most last answer

-- the turns of a begin that wishes this, and what they come to
abbrev pub IsBegin : MountView → FileId → ℕ → ℕ → Wish → List MapTurn → Result Begun BeginFault → Type 0
IsBegin m file b most ToLook turns answer = IsLook m file b most turns answer
IsBegin m file b most ToWrite turns answer = IsWrite m file b most turns answer
IsBegin m file b most ToWriteDirect turns answer = IsDirectWrite m file b most turns answer
IsBegin m file b most ToOverwrite turns answer = IsOverwrite m file b most turns answer

-- what turns came to is the answer, and a mapping is noted in the pass
abbrev pub NotesBegun : Result Begun BeginFault → PassView → Result Iomap BeginFault → PassView → Type 0
NotesBegun (Ok begun) p answer q = (answer ≡ Ok begun.iomap) × (q ≡ with_begun p (Some begun))
NotesBegun (Err fault) p answer q = (answer ≡ Err fault) × (q ≡ p)

-- A begin, from the pass `p` to the pass `q`: its turns at the stripe of the position's block, what they came to, and the mapping that is noted
pub record Begins (m : MountView) (p : PassView) (file : FileId) (pos length : ℕ) (flags : Flags) (answer : Result Iomap BeginFault) (q : PassView) : Type 0 where
  pub reached : PassView
  pub came : Result Begun BeginFault
  pub made : MadeTurns m file (λ turns. IsBegin m file (block_at m pos) (blocks_asked m file pos length) (wish_of flags) turns came) p reached
  pub noted : NotesBegun came reached answer q

abbrev pub is_delalloc_type : IomapType → Bool
is_delalloc_type Delalloc = true
is_delalloc_type _ = false

-- of a mapping of which so many bytes were written, promises of space that its begin made may be left
abbrev pub leaves_promises : Iomap → ℕ → Bool
leaves_promises iomap written = iomap.flags.new && (is_delalloc_type iomap.kind && nat_lt written iomap.length)

-- promises that may be left are taken back from all blocks of the mapping, and else no turn is made
abbrev pub TakesBack : Bool → Extent → List MapTurn → Type 0
TakesBack true extent turns = (count : ℕ) × (turns ≡ TakeBack extent.block extent.length count ∷ [])
TakesBack false extent turns = turns ≡ []

-- An end, from the pass `p` to the pass `q`, which has no mapping begun: blocks that were written are dirty or have a sector by then, so only the others lose their promise
pub record Ends (m : MountView) (p : PassView) (iomap : Iomap) (written : ℕ) (q : PassView) : Type 0 where
  pub begun : Begun
  pub reached : PassView
  pub was : p.begun ≡ Some begun
  pub made : MadeTurns m iomap.file (TakesBack (leaves_promises iomap written) begun.sample.extent) p reached
  pub pass_is : q ≡ with_begun reached None
