-- What a read does that does not wait: one try for each part, until one is hindered.
use Rattle.std.specs.Prelude.{◌≡◌, ℕ, ◌+◌, ◌-◌, ◌<◌, ◌^◌, ◌==◌, min, Bool, false, if◌then◌else◌, IfNone, IfSome, IsTrue, Result, Ok, Err, Option, Some, None, List, [], ◌∷◌, ◌++◌, length, map}
use Rattle.iob_base.specs.declared.answer.Answer.{Answer}
use Rattle.iob_base.specs.declared.answer.Fault.{Fault}
use Rattle.iob_base.specs.declared.answer.Fault.TheVariants.{Again, NoMemory}
use Rattle.iob_base.specs.declared.answer.Why.TheVariants.{Away, Cold, Gate}
use Rattle.iob_base.specs.declared.stamp.FileId.{FileId}
use Rattle.iob_base.specs.declared.stamp.Tag.{Tag}
use Rattle.io_model.specs.Answered.{answered_in}
use Rattle.io_model.specs.Lawful.{is_lawful_reply}
use Rattle.io_model.specs.declared.script.Verb.TheVariants.{Pread}
use Rattle.io_model.specs.Parts.{range_in, span_length}
use Rattle.iov_iter.specs.IovView.{IovView, written_on}
use Rattle.turn_cell.specs.declared.turn.Busy.{Busy as Held}
use Rattle.range_core.specs.EntryStamps.{stamps_in}
use Rattle.range_core.specs.Stamps.{done_by}
use Rattle.range_core.specs.declared.entry.Entry.{Entry}
use Rattle.range_core.specs.declared.entry.Event.{Event}
use Rattle.range_core.specs.declared.entry.Event.TheVariants.{Fetch}
use Rattle.range_core.specs.declared.entry.Outcome.{Outcome}
use Rattle.range_core.specs.declared.entry.Outcome.TheVariants.{Finished, Refused}
use Rattle.range_core.specs.declared.fault.EventFault.{EventFault}
use Rattle.range_core.specs.declared.fault.EventFault.TheVariants as refusal
use Rattle.mount_parts.specs.MountView.{HasBlock, MountView, file_at, stripe_at}
use Rattle.mini_fs.specs.Acts.{Act, Acted, Acts, own_entries}
use Rattle.mini_fs.specs.Acts.Act.{Busy, Number, Turn}
use Rattle.mini_fs.specs.CallActs.{CallActs, is_tag, loans_in, lock_acts, size_acts, tag_of}
use Rattle.mini_fs.specs.Mappings.{file_end}
use Rattle.mini_fs.specs.PassView.{PassView, refused_at, share_at}
use Rattle.mini_fs.specs.Turns.{block_at}
use Rattle.call_parts.specs.Parts.{part_end, part_fetch, read_to, stamps_over}
use Rattle.call_parts.specs.Reads.{bytes_of_act, bytes_read}
use Rattle.call_parts.specs.Replies.{read_reply}

-- the events of a read that does not wait
abbrev pub may_fetch : Tag → Event → Bool
may_fetch tag (Fetch by from to) = is_tag by tag
may_fetch tag _ = false

-- the words that acts found at the held gate of a stripe
abbrev pub words_in : ℕ → List Act → List ℕ
words_in k [] = []
words_in k (Busy stripe word ∷ acts) = (if stripe == k then word ∷ [] else []) ++ words_in k acts
words_in k (_ ∷ acts) = words_in k acts

-- the words that the pass found at the held gate of a stripe
abbrev pub words_at : PassView → ℕ → List ℕ
words_at p stripe = map (λ w. w.0) (refused_at p stripe)

-- what acts found at held gates is all that the pass found there
abbrev pub FoundWords : PassView → PassView → List Act → Type 0
FoundWords p q acts = (stripe : ℕ) → words_at q stripe ≡ words_at p stripe ++ words_in stripe acts

-- all of the pass but its seats at stripes is as before
abbrev pub OnlyTurned : PassView → PassView → Type 0
OnlyTurned p q = q ≡ record p { stripes = q.stripes }

-- how a read that does not wait tells why the turn of a part was refused
abbrev pub hindrance : EventFault → Fault
hindrance (refusal.Away block ticket) = Again (Away block)
hindrance (refusal.Cold block) = Again (Cold block)
hindrance _ = NoMemory

-- what hindered a part whose one try came out so
abbrev pub told : Result (Result (Unit {0}) EventFault) Held → Option Fault
told (Ok (Ok _)) = None
told (Ok (Err refused)) = Some (hindrance refused)
told (Err busy) = Some (Again (Gate busy.word))

module _ (m : MountView) (file : FileId) (by : Tag) (to : ℕ) where
  -- An entry at a stripe is the caller's fetch of the part that begins at a place, and its turn came out so
  pub record IsPartAt (at stripe : ℕ) (own : Entry) (outcome : Outcome) : Type 0 where
    pub some : at < to
    pub block : HasBlock m file (block_at m at)
    pub stripe_is : stripe ≡ stripe_at m file (block_at m at)
    pub caller : own.caller ≡ by.caller
    pub event : own.event ≡ part_fetch m.geometry by to at
    pub outcome_is : own.outcome ≡ outcome

  -- the act reads the part that begins at a place
  abbrev pub ReadsPart : ℕ → Act → Type 0
  ReadsPart at (Turn stripe others own) = IsPartAt at stripe own Finished
  ReadsPart at _ = ⊥

  -- the acts read the parts from one place up to another, in order
  abbrev pub ReadParts : ℕ → ℕ → List Act → Type 0
  ReadParts from at [] = from ≡ at
  ReadParts from at (a ∷ acts) = ReadsPart from a × ReadParts (part_end m.geometry to from) at acts

  -- the gate of the stripe was found held by this word
  pub record FoundGate (at stripe word : ℕ) (fault : Fault) : Type 0 where
    pub some : at < to
    pub block : HasBlock m file (block_at m at)
    pub stripe_is : stripe ≡ stripe_at m file (block_at m at)
    pub fault_is : fault ≡ Again (Gate word)

  -- the turn of the part was refused
  pub record WasRefused (at stripe : ℕ) (own : Entry) (fault : Fault) : Type 0 where
    pub refused : EventFault
    pub part : IsPartAt at stripe own (Refused refused)
    pub fault_is : fault ≡ hindrance refused

  -- the act hindered the part that begins at a place, which is told by this fault
  abbrev pub Hinders : ℕ → Fault → Act → Type 0
  Hinders at fault (Turn stripe others own) = WasRefused at stripe own fault
  Hinders at fault (Busy stripe word) = FoundGate at stripe word fault
  Hinders at fault _ = ⊥

  -- the acts after the parts that were read up to a place: none at the end of the range, or the one that hindered the next part
  abbrev pub EndsSo : ℕ → Option Fault → List Act → Type 0
  EndsSo at None last = (last ≡ []) × (at ≡ to)
  EndsSo at (Some fault) last = (a : Act) × (last ≡ a ∷ []) × Hinders at fault a

  -- the part that begins at a place was read
  pub record ReadPart (at : ℕ) (p : PassView) (iov later : IovView) (act : Act) : Type 0 where
    pub reads : ReadsPart at act
    pub bytes : later ≡ written_on (bytes_of_act m p [] act) iov
    pub long : length (bytes_of_act m p [] act) ≡ part_end m.geometry to at - at

  -- the part that begins at a place was hindered
  pub record HinderedPart (at : ℕ) (iov later : IovView) (act : Act) (fault : Fault) : Type 0 where
    pub hinders : Hinders at fault act
    pub nothing : later ≡ iov

  -- One try at the part that begins at a place, and what hindered it
  pub record TriedPart (at : ℕ) (p q : PassView) (iov later : IovView) (fault : Option Fault) : Type 0 where
    pub act : Act
    pub did : Acts act p q
    pub words : FoundWords p q (act ∷ [])
    pub read : IfNone fault (ReadPart at p iov later act)
    pub hindered : IfSome fault (HinderedPart at iov later act)

  -- The parts from one place up to another were read, one try each
  pub record HasRead (from at : ℕ) (p q : PassView) (iov later : IovView) : Type 0 where
    pub acts : List Act
    pub acted : Acted acts p q
    pub words : FoundWords p q acts
    pub parts : ReadParts from at acts
    pub bytes : later ≡ written_on (bytes_read m p [] acts) iov
    pub long : length (bytes_read m p [] acts) ≡ at - from

  -- The parts from a place on were tried in order, up to the end of the range or to the first that was hindered
  pub record TriedParts (from at : ℕ) (p q : PassView) (iov later : IovView) (fault : Option Fault) : Type 0 where
    pub middle : PassView
    pub read : HasRead from at p middle iov later
    pub last : List Act
    pub ended : Acted last middle q
    pub words : FoundWords middle q last
    pub ends : EndsSo at fault last

-- What a read of a file from an offset on did that does not wait: it numbered the call, read the parts up to a place, and was hindered there or came to the end
pub record TriesRead (m : MountView) (file : FileId) (call off : ℕ) (p q : PassView) (iov later : IovView) (answer : Answer) : Type 0 where
  pub count : ℕ
  pub fault : Option Fault
  pub parts : List Act
  pub last : List Act
  pub acts : List Act
  pub acts_are : acts ≡ Number call ∷ (parts ++ last)
  pub did : CallActs m file (may_fetch (tag_of p call)) p q acts
  pub words : FoundWords p q acts
  pub class : lock_acts acts ≡ []
  pub sizes : size_acts acts ≡ []
  pub read : ReadParts m file (tag_of p call) (read_to (file_end m file) off (length iov.bytes)) off (off + count) parts
  pub ends : EndsSo m file (tag_of p call) (read_to (file_end m file) off (length iov.bytes)) (off + count) fault last
  pub stamps : stamps_in m.geometry.block_size (own_entries acts) ≡ stamps_over m.geometry.block_size (answered_in m.geometry.block_size (range_in (file_end m file) off (length iov.bytes)) false answer.reply) (done_by (tag_of p call))
  pub bytes : later ≡ written_on (bytes_read m p [] acts) iov
  pub counted : length (bytes_read m p [] acts) ≡ count
  pub reply : answer.reply ≡ read_reply (length iov.bytes) (span_length (range_in (file_end m file) off (length iov.bytes))) count fault
  pub lawful : IsTrue (is_lawful_reply m.geometry.grain m.geometry.block_size (file_at m file).blocks (range_in (file_end m file) off (length iov.bytes)) false (Pread off iov.lengths) answer.reply)
  pub bios : answer.bios ≡ min (loans_in acts) (2 ^ 64 - 1)

-- After a call of this number the pass has it as its last, and its caller numbers and its shares are as before
pub record KeepsPass (call : ℕ) (p q : PassView) : Type 0 where
  pub last : q.last ≡ call
  pub caller : q.caller ≡ p.caller
  pub spare : q.spare ≡ p.spare
  pub shares : (stripe : ℕ) → share_at q stripe ≡ share_at p stripe
