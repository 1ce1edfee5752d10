-- What a call of a script did at a mount that reads or changes a file's bytes or its space, by the record of the call.
use Rattle.std.specs.Prelude.{◌≡◌, ℕ, List, [], length, map, replicate, take}
use Rattle.std.specs.List.{concat, sum}
use Rattle.iob_base.specs.declared.answer.Answer.{Answer}
use Rattle.iob_base.specs.declared.stamp.FileId.{FileId}
use Rattle.io_model.specs.declared.script.Verb.{Verb}
use Rattle.io_model.specs.declared.script.Verb.TheVariants.{Alloc, Pread, Punch, Pwrite, Trunc, Zero}
use Rattle.iov_iter.specs.IovView.{IovView}
use Rattle.iov_iter.specs.Making.{iov_of}
use Rattle.fault_device.specs.LaneView.{LaneView}
use Rattle.mount_parts.specs.MountView.{MountView}
use Rattle.mini_fs.specs.PassView.{PassView}
use Rattle.buffered_read.specs.ReadCalls.{Preads}
use Rattle.buffered_write.specs.Allocates.{Allocates}
use Rattle.buffered_write.specs.Punches.{Punches}
use Rattle.buffered_write.specs.Pwrites.{Pwrites}
use Rattle.buffered_write.specs.Truncates.{Truncates}
use Rattle.buffered_write.specs.Zeroes.{ZeroesRange}

module _ (m : MountView) (file : FileId) (call off : ℕ) (before after : LaneView) (p q : PassView) (answer : Answer) (got : List ℕ) where
  -- A read into pages of these lengths gave the bytes before the place where it left them
  pub record DidRead (lengths : List ℕ) : Type 0 where
    pub iov : IovView
    pub later : IovView
    pub page : ℕ
    pub iov_is : iov ≡ iov_of m.geometry.block_size page lengths (replicate (sum lengths) 0)
    pub read : Preads m file call off before after p q iov later answer
    pub got_is : got ≡ take later.place later.bytes

  -- A write of these segments, which gives nothing
  pub record DidWrite (segments : List (List ℕ)) : Type 0 where
    pub iov : IovView
    pub later : IovView
    pub page : ℕ
    pub iov_is : iov ≡ iov_of m.geometry.block_size page (map length segments) (concat segments)
    pub written : Pwrites m file call off before after p q iov later answer
    pub none : got ≡ []

-- what a call of this verb did with the lane of its caller, what it answered and which bytes it gave
abbrev pub DidCached : MountView → FileId → ℕ → Verb → LaneView → LaneView → PassView → PassView → Answer → List ℕ → Type 0
DidCached m file call (Pread off lengths) before after p q answer got = DidRead m file call off before after p q answer got lengths
DidCached m file call (Pwrite off segments) before after p q answer got = DidWrite m file call off before after p q answer got segments
DidCached m file call (Zero off n) before after p q answer got = ZeroesRange m file call off n before after p q answer × (got ≡ [])
DidCached m file call (Punch off n) before after p q answer got = Punches m file call off n before after p q answer × (got ≡ [])
DidCached m file call (Alloc off n) before after p q answer got = Allocates m file call off n p q answer × (after ≡ before) × (got ≡ [])
DidCached m file call (Trunc size) before after p q answer got = Truncates m file call size before after p q answer × (got ≡ [])
DidCached m file call _ before after p q answer got = ⊥
