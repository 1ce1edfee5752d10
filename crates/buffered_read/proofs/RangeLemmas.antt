-- The bytes of a mapping, between its begin and its end.
use Rattle.std.proofs.Common.{◌≡◌, ℕ, ◌+◌, ◌-◌, ◌*◌, ◌<◌, ◌≤◌, min, Bool, true, false, Some, List, [], refl, sym, ap, ◌∙◌, subst, arith, mul-le-mul_right, add-mul}
use Rattle.std.specs.Prelude.{◌^◌, ◌/◌, ◌%◌, All, IfSome, IsTrue, MatchOption, None, Option}
use Rattle.std.proofs.lemmas.Bool.{false≢true}
use Rattle.std.proofs.lemmas.List.Elements.{All-weaker}
use Rattle.std.proofs.Math.Nat.{mul-mod_left}
use Rattle.iob_base.specs.declared.answer.Fault.{Fault}
use Rattle.iob_base.specs.declared.stamp.FileId.{FileId}
use Rattle.iob_base.specs.declared.stamp.Tag.{Tag}
use Rattle.io_model.specs.Parts.{blocks_met, span}
use Rattle.iov_iter.specs.IovView.{IovView}
use Rattle.fault_device.specs.LaneView.{LaneView}
use Rattle.iomap_core.specs.IterView.{IterView, advanced, began, finished, whole_range}
use Rattle.iomap_core.specs.Mappings.{IsBegun, IsSameMapping}
use Rattle.iomap_core.specs.declared.mapping.Flags.{Flags}
use Rattle.iomap_core.specs.declared.mapping.Iomap.{Iomap}
use Rattle.range_core.specs.ByteRuns.{HasNext}
use Rattle.range_core.specs.declared.entry.Entry.{Entry}
use Rattle.range_core.specs.declared.entry.Event.{Event}
use Rattle.range_core.specs.declared.entry.Event.TheVariants as event
use Rattle.mount_parts.specs.MountView.{MountView}
use Rattle.mini_fs.specs.Acts.{Act, own_entries}
use Rattle.mini_fs.specs.CallActs.{loans_in}
use Rattle.mini_fs.specs.Mappings.{IsOpen, Tells, file_end, mapping_in, no_flags}
use Rattle.mini_fs.specs.PassView.{IsPassOf, PassView}
use Rattle.mini_fs.specs.declared.begun.Begun.{Begun}
use Rattle.call_parts.specs.Budgets.{AreSound, IsSound}
use Rattle.call_parts.specs.Maps.{EndsMapping, Maps, MapsNone, maps}
use Rattle.buffered_read.specs.Preads.{EndsAt, HasReadFrom, HasReadUpTo, IsDoneTo, IsMappedAt, ReadsMapping, may_read, progress}
use Rattle.call_parts.specs.Steps.{IsQuiet, Steps}
use Rattle.buffered_read.specs.Warms.{more_bios}
use Rattle.call_parts.specs.declared.progress.Progress.{Progress}
use Rattle.call_parts.proofs.FewLemmas.{few-ended, few-quiet, few-then}
use Rattle.call_parts.proofs.MapLemmas.{maps-quiet}
use Rattle.buffered_read.proofs.ReadLemmas.{IsReadSoFar, both, on-quiet, read-kept, read-quiet, read-then, read-up-to, so-far-at, so-far-next, so-far-none, so-far-short}
use Rattle.call_parts.proofs.StepLemmas.{quiet-bytes, quiet-stamps, steps-may}
use Rattle.buffered_read.proofs.AimLemmas.{next-fewer, some-size}
use Rattle.buffered_read.proofs.WarmLemmas.{few-bios, few-more}

-- a read may make the turns that only look
maps-read : (by : Tag) (e : Event) → IsTrue (maps false e) → IsTrue (may_read by e)
maps-read by (event.Sample block most) is = refl
maps-read by e is = absurd (false≢true is)

-- looks bring no read back
maps-sound : (e : Event) → IsTrue (maps false e) → IsSound e
maps-sound (event.Sample block most) is = tt
maps-sound e is = absurd (false≢true is)

looks-sound : (m : MountView) (file : FileId) (a : LaneView) (p q : PassView) (acts : List Act) → Steps m file (maps false) a a p q acts → AreSound (own_entries acts)
looks-sound m file a p q acts steps = All-weaker (λ (e : Entry). IsTrue (maps false e.event)) (λ (e : Entry). IsSound e.event) (λ e is. maps-sound e.event is) (own_entries acts) steps.did.made

-- begun gave no space
not-true : (b : Bool) → (b ≡ true → false ≡ true) → b ≡ false
not-true false never = refl
not-true true never = absurd (false≢true (never refl))

-- a mapping that was begun at a position covers it, and ends with a block of the file
pub mapped-at : (m : MountView) (file : FileId) (pos : ℕ) (p q : PassView) (iomap : Iomap) → IsBegun file pos iomap → Maps m file pos false p q iomap → IsMappedAt m file pos iomap
mapped-at m file pos p q iomap begun maps =
    let size = m.geometry.block_size in
    let extent = maps.begun.sample.extent in
    let offset : iomap.offset ≡ extent.block * size = ap (λ (i : Iomap). i.offset) (sym maps.iomap_is) ∙ ap (λ (b : Begun). b.iomap.offset) maps.tells.is in
    let length : iomap.length ≡ extent.length * size = ap (λ (i : Iomap). i.length) (sym maps.iomap_is) ∙ ap (λ (b : Begun). b.iomap.length) maps.tells.is in
    let whole : iomap.offset + iomap.length ≡ (extent.block + extent.length) * size = ap (λ n. n + iomap.length) offset ∙ ap (λ n. extent.block * size + n) length ∙ sym (add-mul extent.block extent.length size) in
    record {
      begun = begun;
      within = subst (λ n. n ≤ file_end m file) (sym whole) (mul-le-mul_right size maps.tells.lies.within);
      whole = ap (λ n. n % size) whole ∙ mul-mod_left (extent.block + extent.length) size;
      old = not-true iomap.flags.new maps.promised;
    }

module _ (m : MountView) (file : FileId) (by : Tag) (some : 0 < m.geometry.block_size) where
  unfoldable looked-read : (at : ℕ) (a : LaneView) (p q : PassView) (iov : IovView) (acts : List Act) → Steps m file (maps false) a a p q acts → loans_in acts ≡ 0 → HasReadFrom m file by at a a p q iov iov (progress at 0 None)
  looked-read at a p q iov acts steps loans =
      let quiet : All IsQuiet (own_entries acts) = All-weaker (λ (e : Entry). IsTrue (maps false e.event)) IsQuiet (λ e is. maps-quiet false e.event is) (own_entries acts) steps.did.made in
      read-quiet m file by at a a p q iov acts 0 None (steps-may m file (maps false) (may_read by) a a p q acts (maps-read by) steps) (quiet-stamps m.geometry.block_size (own_entries acts) quiet) (quiet-bytes m p [] acts quiet) (on-quiet at (own_entries acts) quiet) (ap (λ n. min n (2 ^ 64 - 1)) (sym loans)) tt tt

  -- bytes that were read after a mapping was begun
  pub begun-read : (from to : ℕ) (a b : LaneView) (p q r : PassView) (iov later : IovView) (came : Progress) (iomap : Iomap) → IsPassOf m p → HasNext iov (to - from) → Maps m file from false p q iomap → HasReadUpTo m file by from to a b q r iov later came → HasReadUpTo m file by from to a b p r iov later came
  unfolding read-then both looked-read read-quiet
  begun-read from to a b p q r iov later came iomap of room maps read =
      let fits = room.within in
      let size = m.geometry.block_size in
      read-up-to m file by from to a b p r iov later came.at (min (0 + came.bios) (2 ^ 64 - 1)) came.bios came.fault (few-bios came.bios (loans_in read.read.acts) (2 ^ 64 - 1) read.read.bios)
      (read-then m file by some from from a a b p q r iov iov later (progress from 0 None) came of refl (omega (arith, fits)) (λ no. absurd (omega (arith, no))) (looked-read from a p q iov maps.acts (maps.steps a) maps.loans) read.read)
      read.stops
      (few-then m file (λ b. true) (from / size) (blocks_met size (span from to)) came.fault maps.acts read.read.acts (few-quiet m file (λ b. true) (from / size) (blocks_met size (span from to)) None maps.acts (looks-sound m file a p q maps.acts (maps.steps a)) maps.loans) read.few)

  ends-within : (from to at : ℕ) (o : Option Fault) → EndsAt m.geometry.block_size from to at o → at ≤ to
  ends-within from to at None e = omega (arith, e)
  ends-within from to at (Some f) e = (let l = e.0 in omega (arith, l))

  pub came-within : (from to : ℕ) (a b : LaneView) (p q : PassView) (iov later : IovView) (came : Progress) → HasReadUpTo m file by from to a b p q iov later came → came.at ≤ to
  came-within from to a b p q iov later came read = ends-within from to came.at came.fault read.stops

  -- bytes that were read before a mapping was ended
  pub ended-read : (from to : ℕ) (a b : LaneView) (p q r : PassView) (iov later : IovView) (came : Progress) (new : Bool) → new ≡ false → IsPassOf m p → HasNext iov (to - from) → HasReadUpTo m file by from to a b p q iov later came → EndsMapping m file new q r → HasReadUpTo m file by from to a b p r iov later came
  unfolding read-kept both looked-read read-quiet
  ended-read from to a b p q r iov later came new none of room read ends =
      let fits = room.within in
      let begins = read.read.begins in
      let most = came-within from to a b p q iov later came read in
      let size = m.geometry.block_size in
      let steps = subst (λ w. Steps m file (maps w) b b q r ends.acts) none (ends.steps b) in
      read-up-to m file by from to a b p r iov later came.at (min (came.bios + 0) (2 ^ 64 - 1)) came.bios came.fault (few-more came.bios (loans_in read.read.acts) (2 ^ 64 - 1) read.read.bios)
      (read-kept m file by some from came.at a b b p q r iov later later came (progress came.at 0 None) of refl (omega (arith, fits, begins, most)) (λ first no. absurd (omega (arith, no))) read.read
      (looked-read came.at b q r later ends.acts steps ends.loans))
      read.stops
      (few-ended m file (λ b. true) (from / size) (blocks_met size (span from to)) came.fault read.read.acts ends.acts read.few (looks-sound m file b q r ends.acts steps) ends.loans)

-- a mapping is still to be ended where the pass keeps it
pub unended-kept : (m : MountView) (p q : PassView) (iomap : Iomap) → IsPassOf m q → q.begun ≡ p.begun → IsOpen m p iomap → IsOpen m q iomap
unended-kept m p q iomap of same is = record { of = of; same = subst (λ o. IsSameMapping (mapping_in o) iomap) (sym same) is.same; tells = subst (λ o. IfSome o (Tells m)) (sym same) is.tells }

-- What a mapping has of a range that a call goes over from a place on: some bytes, all in the file, and where it ends before the range a block ends
pub record IsReach (m : MountView) (file : FileId) (iomap : Iomap) (from left to : ℕ) : Type 0 where
  pub some : from < to
  pub mapped : to ≤ iomap.offset + iomap.length
  pub range : to ≤ from + left
  pub within : to ≤ file_end m file
  pub ends : to < from + left → to % m.geometry.block_size ≡ 0

pub reach-so : (m : MountView) (file : FileId) (iomap : Iomap) (pos left from to : ℕ) → 0 < left → IsMappedAt m file pos iomap → from ≡ pos → to ≡ min (iomap.offset + iomap.length) (pos + left) → IsReach m file iomap from left to
reach-so m file iomap pos left from to some is from_is to_is =
    let low = is.begun.to in
    let end = is.within in
    record {
      some = omega (arith, low, some, from_is, to_is);
      mapped = omega (arith, to_is);
      range = omega (arith, from_is, to_is);
      within = omega (arith, end, to_is);
      ends = λ before. (let here : to ≡ iomap.offset + iomap.length = omega (arith, before, from_is, to_is) in ap (λ n. n % m.geometry.block_size) here ∙ is.whole);
    }

-- a range that was done up to a place
pub done-to : (it later : IterView) (at : ℕ) → it.pos ≤ at → at - it.pos ≤ it.left → later ≡ finished (advanced it (at - it.pos)) → IsDoneTo it later at
done-to it later at low high is =
    let pos : it.pos + (at - it.pos) ≡ at = omega (arith, low) in
    let end : it.pos + (at - it.pos) + (it.left - (at - it.pos)) ≡ it.pos + it.left = omega (arith, low, high) in
    subst (λ v. IsDoneTo it v at) (sym is) (record { file = refl; pos = pos; end = end; finished = refl })

-- the bytes of a mapping were read, and the mapping was ended
module _ (m : MountView) (file : FileId) (by : Tag) (iomap : Iomap) (left to : ℕ) (a b : LaneView) (p q r : PassView) (iov later : IovView) (came : Progress) (old : iomap.flags.new ≡ false) (of : IsPassOf m p) (room : HasNext iov left) where
  ended-here : (pos : ℕ) → IsReach m file iomap pos left to → HasReadUpTo m file by pos to a b p q iov later came → EndsMapping m file iomap.flags.new q r → ReadsMapping m file by pos (pos + left) a b p r iov later came
  ended-here pos reach read ends =
      let range = reach.range in
      record {
        end = to;
        some = reach.some;
        within = reach.range;
        whole = reach.ends;
        read = ended-read m file by (some-size m file pos to reach.some reach.within) pos to a b p q r iov later came iomap.flags.new old of (next-fewer iov left (to - pos) (omega (arith, range)) room) read ends;
      }

  pub mapping-read : (mine last : FileId) (pos from : ℕ) → mine ≡ file → last ≡ file → from ≡ pos → IsReach m file iomap from left to → HasReadUpTo m mine by from to a b p q iov later came → EndsMapping m last iomap.flags.new q r
      → ReadsMapping m file by pos (pos + left) a b p r iov later came
  mapping-read mine last pos from mine_is last_is from_is reach read ends =
      ended-here pos (subst (λ n. IsReach m file iomap n left to) from_is reach) (subst (λ n. HasReadUpTo m file by n to a b p q iov later came) from_is (subst (λ f. HasReadUpTo m f by from to a b p q iov later came) mine_is read))
      (subst (λ f. EndsMapping m f iomap.flags.new q r) last_is ends)

-- What a call is told that asked for a mapping of the next part of its range
abbrev pub Found : MountView → Flags → IterView → IterView → PassView → PassView → Option Iomap → Type 0
Found m flags it later p q found = MatchOption found ((it.left ≡ 0) × (later ≡ it) × (q ≡ p)) (λ iomap. (0 < it.left) × IsBegun it.file it.pos iomap × (later ≡ began it iomap) × Maps m it.file it.pos flags.write p q iomap)

-- A mapping was begun that is only looked at
pub record HasBegun (m : MountView) (it later : IterView) (p q : PassView) (iomap : Iomap) : Type 0 where
  pub begun : IsBegun it.file it.pos iomap
  pub later_is : later ≡ began it iomap
  pub maps : Maps m it.file it.pos false p q iomap

pub has-begun : (m : MountView) (flags : Flags) (it later : IterView) (p q : PassView) (found : Option Iomap) (iomap : Iomap) → flags ≡ no_flags → found ≡ Some iomap → Found m flags it later p q found → HasBegun m it later p q iomap
has-begun m flags it later p q found iomap flags_is found_is told =
    let h = subst (Found m flags it later p q) found_is told in
    record { begun = h.1; later_is = h.2; maps = subst (λ (f : Flags). Maps m it.file it.pos f.write p q iomap) flags_is h.3 }

-- bytes are left, so there is a mapping
pub never-none : (m : MountView) (flags : Flags) (it later : IterView) (p q : PassView) (found : Option Iomap) → 0 < it.left → found ≡ None → Found m flags it later p q found → ⊥
never-none m flags it later p q found some found_is told = (let h = (subst (Found m flags it later p q) found_is told).0 in omega (arith, some, h))

-- a mapping that is only looked at is not refused
pub never-refused : (m : MountView) (flags : Flags) (file : FileId) (p q : PassView) (fault : Fault) → flags ≡ no_flags → MapsNone m file flags.write p q fault → ⊥
never-refused m flags file p q fault flags_is none = false≢true (sym (ap (λ (f : Flags). f.write) flags_is) ∙ none.asked)

-- what was done of a range from its begin of a mapping on was done of it
pub done-begun : (it later last : IterView) (iomap : Iomap) (at : ℕ) → later ≡ began it iomap → IsDoneTo later last at → IsDoneTo it last at
done-begun it later last iomap at is done = (let d = subst (λ v. IsDoneTo v last at) is done in record { file = d.file; pos = d.pos; end = d.end; finished = d.finished })

pub next-read : (m : MountView) (by : Tag) (it later : IterView) (iomap : Iomap) (a b : LaneView) (p q r : PassView) (iov last : IovView) (came : Progress) → 0 < m.geometry.block_size → IsPassOf m p → HasNext iov it.left → HasBegun m it later p q iomap
    → ReadsMapping m later.file by later.pos (later.pos + later.left) a b q r iov last came → ReadsMapping m it.file by it.pos (it.pos + it.left) a b p r iov last came
next-read m by it later iomap a b p q r iov last came some of room begun read =
    let d = subst (λ v. ReadsMapping m v.file by v.pos (v.pos + v.left) a b q r iov last came) begun.later_is read in
    let high = d.within in
    record {
      end = d.end;
      some = d.some;
      within = d.within;
      whole = d.whole;
      read = begun-read m it.file by some it.pos d.end a b p q r iov last came iomap of (next-fewer iov it.left (d.end - it.pos) (omega (arith, high)) room) begun.maps d.read;
    }

-- the loop of a call over the mappings of its range begins
pub range-first : (m : MountView) (file : FileId) (by : Tag) (from to : ℕ) (a : LaneView) (p : PassView) (iov : IovView) (it : IterView) → it ≡ whole_range file from (to - from) → from ≤ to → IsPassOf m p → IsReadSoFar m file by from to a a p p iov iov it.pos 0
range-first m file by from to a p iov it is order of = subst (λ n. IsReadSoFar m file by from to a a p p iov iov n 0) (sym (ap (λ (v : IterView). v.pos) is)) (so-far-none m file by from to order a p iov of)

-- where bytes are left, there were some
pub range-left : (m : MountView) (file : FileId) (by : Tag) (from to : ℕ) (it : IterView) (a b : LaneView) (p q : PassView) (iov mid : IovView) (bios : ℕ) → it.pos + it.left ≡ to → IsReadSoFar m file by from to a b p q iov mid it.pos bios → (left : ℕ) → left ≡ it.left → 0 < left → (from < to) × (it.pos < to)
range-left m file by from to it a b p q iov mid bios end so left is some = (let begins = so.read.begins in (omega (arith, begins, end, is, some), omega (arith, end, is, some)))

-- One turn of the loop of a call over the mappings of its range
module _ (m : MountView) (file : FileId) (by : Tag) (from to : ℕ) (it later : IterView) (a b c : LaneView) (p q r : PassView) (iov mid last : IovView) (bios sum : ℕ) (came : Progress) (of : IsPassOf m p) (room : HasNext iov (to - from)) (end : to ≤ file_end m file) (file_is : it.file ≡ file) (end_is : it.pos + it.left ≡ to)
    (so : IsReadSoFar m file by from to a b p q iov mid it.pos bios) (done : IsDoneTo it later came.at) (sum_is : sum ≡ more_bios bios came.bios) (read : ReadsMapping m it.file by it.pos (it.pos + it.left) b c q r mid last came) where
  here : ReadsMapping m file by it.pos to b c q r mid last came
  here = subst (λ n. ReadsMapping m file by it.pos n b c q r mid last came) end_is (subst (λ f. ReadsMapping m f by it.pos (it.pos + it.left) b c q r mid last came) file_is read)

  some : 0 < m.geometry.block_size
  some = (let low = here.some in let high = here.within in some-size m file it.pos to (omega (arith, low, high)) end)

  pub range-short : (f : Fault) → came.fault ≡ Some f → HasReadUpTo m file by from to a c p r iov last (progress came.at sum (Some f))
  range-short f is = so-far-short m file by from to some a b c p q r iov mid last it.pos bios here.end of room so here.some here.within came here.read sum sum_is f is

  reached : came.fault ≡ None → later.pos ≡ here.end
  reached is = done.pos ∙ so-far-at m file by from to some a b c p q r iov mid last it.pos bios here.end of room so here.some here.within came here.read is

  pub range-more : came.fault ≡ None → IsReadSoFar m file by from to a c p r iov last later.pos sum
  range-more is = subst (λ n. IsReadSoFar m file by from to a c p r iov last n sum) (sym (reached is)) (so-far-next m file by from to some a b c p q r iov mid last it.pos bios here.end of room so here.some here.within came here.read sum sum_is here.whole is)

  pub range-fewer : came.fault ≡ None → later.left < it.left
  range-fewer is = (let at = reached is in let low = here.some in let high = here.within in let same = done.end in omega (arith, at, low, high, same, end_is))
