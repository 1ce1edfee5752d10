-- What a write tells of its parts, of a mapping, and of its range.
use Rattle.std.proofs.Common.{inl, inr, ◌≡◌, ℕ, zero, suc, ◌+◌, ◌-◌, ◌*◌, ◌<◌, ◌≤◌, List, min, Bool, true, false, Some, None, drop, refl, sym, ap, ◌∙◌, subst, arith, le_refl}
use Rattle.std.specs.Prelude.{◌⊎◌, ◌^◌, ◌%◌, IfSome, IsTrue, Option, if◌then◌else◌, is_none, is_some}
use Rattle.std.proofs.lemmas.Bool.{cases_eq, false≢true}
use Rattle.iob_base.specs.Geometry.{is_block_size, is_folio_blocks}
use Rattle.iob_base.specs.declared.answer.Fault.{Fault}
use Rattle.iob_base.specs.declared.stamp.FileId.{FileId}
use Rattle.iob_base.specs.declared.stamp.Tag.{Tag}
use Rattle.iov_iter.specs.IovView.{IovView}
use Rattle.fault_device.specs.LaneView.{LaneView, lane_of}
use Rattle.iomap_core.specs.IterView.{IterView, whole_range}
use Rattle.iomap_core.specs.declared.mapping.Iomap.{Iomap}
use Rattle.range_core.specs.ByteRuns.{HasNext}
use Rattle.range_core.specs.Stores.{past}
use Rattle.range_core.specs.declared.entry.Event.{Event}
use Rattle.range_core.specs.declared.entry.Event.TheVariants as event
use Rattle.range_core.specs.declared.sample.Sample.{Sample}
use Rattle.mount_parts.specs.MountView.{MountView, file_at}
use Rattle.mini_fs.specs.Acts.{Act, own_entries}
use Rattle.mini_fs.specs.CallActs.{loans_in}
use Rattle.mini_fs.specs.Mappings.{file_end}
use Rattle.mini_fs.specs.PassView.{PassView}
use Rattle.call_parts.specs.Causes.{IsCaused}
use Rattle.buffered_write.specs.Lays.{CanLay, EndsAt, GoesOn, GoesTo, IsLeftAt, LaysNothing, Meet}
use Rattle.call_parts.specs.Maps.{EndsMapping, Maps, MapsNone, maps}
use Rattle.call_parts.specs.Parts.{part_end}
use Rattle.buffered_write.specs.Pwrites.{CameOn, HasMapped, IsToWrite, Writes, followed, is_whole, may_write, progress}
use Rattle.call_parts.specs.Steps.{Steps}
use Rattle.call_parts.specs.declared.progress.Progress.{Progress}
use Rattle.buffered_write.proofs.LayLemmas.{laid-quiet, nothing-may}
use Rattle.buffered_write.proofs.MappedLemmas.{begun-goes, begun-of, map-step}
use Rattle.buffered_write.proofs.PartReadLemmas.{part-reads, reads-ended}
use Rattle.call_parts.proofs.PartLemmas.{IsPart, part-is}
use Rattle.call_parts.proofs.ReadyLemmas.{some-blocks, some-bytes}
use Rattle.buffered_write.proofs.StoredLemmas.{can-lay-after, goes-on, lay-some, none-writes, quiet-writes, writes-then}

-- the bytes of an iov past some
pub next-past : (v : IovView) (n k : ℕ) → HasNext v n → k ≤ n → HasNext (past v k) (n - k)
next-past v n k room le = (let w = room.within in record { within = omega (arith, w, le); home = λ b low below. room.home b (omega (arith, low)) (omega (arith, below, le)) })

-- where work on a range ends
pub ends-high : (size from to at : ℕ) (fault : Option Fault) (stale : Bool) → EndsAt size from to at fault stale → at ≤ to
ends-high size from to at (Some fault) stale ends = (let h = ends.0.0 in omega (arith, h))
ends-high size from to at None true ends = (let h = ends.0 in omega (arith, h))
ends-high size from to at None false ends = (let h = ends in omega (arith, h))

-- a place that is no end of the range is where it begins or where a block ends
not-end : (size from at to : ℕ) → at < to → Meet size from at to → (at ≡ from) ⊎ (at % size ≡ 0)
not-end size from at to less (inl e) = inl e
not-end size from at to less (inr (inl e)) = absurd (omega (arith, less, e))
not-end size from at to less (inr (inr e)) = inr e

pub meet-on : (size from at to next : ℕ) → at < to → Meet size from at to → Meet size from at next
meet-on size from at to next less meet = elim (not-end size from at to less meet) [ inl e ↦ inl e | inr e ↦ inr (inr e) ]

left-wider : (size from at next to came : ℕ) → at < to → next ≤ to → Meet size from at to → IsLeftAt size at next came → IsLeftAt size from to came
left-wider size from at next to came less le meet left = (
  (let h = left.0 in omega (arith, h, le)),
  elim left.1 [
    | inl e ↦ elim (not-end size from at to less meet) [ inl f ↦ inl (e ∙ f) | inr f ↦ inr (ap (λ n. n % size) e ∙ f) ]
    | inr e ↦ inr e
  ],
)

module _ (size from at next to : ℕ) (less : at < to) (le : next ≤ to) (meet : Meet size from at to) where
  -- a part of the range that ends before its end ends the whole
  pub ends-part : (came : Progress) (stale : Bool) → is_whole (record { came = came; stale = stale }) ≡ false → EndsAt size at next came.at came.fault stale → EndsAt size from to came.at came.fault stale
  ends-part came stale broken ends = by came.fault stale broken ends
    where
      by : (fault : Option Fault) (s : Bool) → (if s then false else is_none fault) ≡ false → EndsAt size at next came.at fault s → EndsAt size from to came.at fault s
      by (Some fault) s broken e = (left-wider size from at next to came.at less le meet e.0, e.1)
      by None true broken e = left-wider size from at next to came.at less le meet e
      by None false broken e = absurd (false≢true (sym broken))

-- a part that was stored whole
pub whole-part : (size from to : ℕ) (came : Progress) (stale : Bool) → is_whole (record { came = came; stale = stale }) ≡ true → EndsAt size from to came.at came.fault stale → (came.fault ≡ None) × (came.at ≡ to)
whole-part size from to came stale whole ends = by came.fault stale whole ends
  where
    by : (fault : Option Fault) (s : Bool) → (if s then false else is_none fault) ≡ true → EndsAt size from to came.at fault s → (fault ≡ None) × (came.at ≡ to)
    by (Some fault) true w e = absurd (false≢true w)
    by (Some fault) false w e = absurd (false≢true w)
    by None true w e = absurd (false≢true w)
    by None false w e = (refl, e)

-- the end of a part cuts the range
pub part-meets : (size folio from at next to : ℕ) → IsPart size folio to at next → Meet size from next to
part-meets size folio from at next to part = elim (cases_eq next to) [
  | inl e ↦ inr (inl e)
  | inr n ↦ inr (inr (part.ends (let w = part.within in omega (arith, w, n))))
]

module _ (m : MountView) (sized : IsTrue (is_block_size m.geometry.block_size)) (foliod : IsTrue (is_folio_blocks m.geometry.folio_blocks)) where
  pub part-of : (to at next : ℕ) → next ≡ part_end m.geometry to at → at < to → IsPart m.geometry.block_size m.geometry.folio_blocks to at next
  part-of to at next is less = subst (IsPart m.geometry.block_size m.geometry.folio_blocks to at) (sym is) (part-is m.geometry.block_size m.geometry.folio_blocks to at (some-bytes m.geometry.block_size sized) (some-blocks m.geometry.folio_blocks foliod) less)

-- what a loop over the parts of a mapping keeps
pub record HasWritten (m : MountView) (file : FileId) (by : Tag) (seen : Sample) (from to : ℕ) (a b : LaneView) (p q : PassView) (iov later : IovView) (came : Progress) : Type 0 where
  pub goes : GoesOn m file by q
  pub begun : q.begun ≡ p.begun
  pub can : CanLay m file seen from to q
  pub whole : came.fault ≡ None
  pub low : from ≤ came.at
  pub high : came.at ≤ to
  pub meet : Meet m.geometry.block_size from came.at to
  pub room : HasNext later (to - came.at)
  pub writes : Writes m file by from to a b p q iov later came

module _ (m : MountView) (file : FileId) (by : Tag) (seen : Sample) (from to : ℕ) where
  pub written-none : (lane : LaneView) (p : PassView) (iov : IovView) → GoesOn m file by p → CanLay m file seen from to p → HasNext iov (to - from) → HasWritten m file by seen from to lane lane p p iov iov (progress from 0 None)
  written-none lane p iov goes can room = (let some = can.some in record {
    goes = goes;
    begun = refl;
    can = can;
    whole = refl;
    low = omega arith;
    high = omega (arith, some);
    meet = inl refl;
    room = room;
    writes = none-writes m file by from to lane p iov (lay-some m file seen from to p can) goes.of;
  })

  -- a part that follows what was written
  pub part-then : (a b c : LaneView) (p q r : PassView) (iov later last : IovView) (came next : Progress) (end : ℕ) → came.at < to → IsPart m.geometry.block_size m.geometry.folio_blocks to came.at end → HasWritten m file by seen from to a b p q iov later came → Writes m file by came.at end b c q r later last next
      → Writes m file by from to a c p r iov last (followed came next)
  part-then a b c p q r iov later last came next end less part sofar w =
      let size = m.geometry.block_size in
      let some = lay-some m file seen from to q sofar.can in
      writes-then m file by from to end a b c p q r iov later last came next some sofar.whole (meet-on size from came.at to next.at less sofar.meet)
      (part-reads m file from came.at end to some part.some part.within sofar.meet (part-meets size m.geometry.folio_blocks from came.at end to part) sofar.low) sofar.writes w

  pub written-on : (a b c : LaneView) (p q r : PassView) (iov later last : IovView) (came next : Progress) (end : ℕ) → came.at < to → IsPart m.geometry.block_size m.geometry.folio_blocks to came.at end → next.fault ≡ None → next.at ≡ end
      → HasWritten m file by seen from to a b p q iov later came → Writes m file by came.at end b c q r later last next → GoesOn m file by r → r.begun ≡ q.begun → HasWritten m file by seen from to a c p r iov last (followed came next)
  written-on a b c p q r iov later last came next end less part whole reached sofar w goes begun =
      let size = m.geometry.block_size in
      let begins = part.some in
      let within = part.within in
      let low = sofar.low in
      let k : to - came.at - (next.at - came.at) ≡ to - next.at = omega (arith, begins, within, reached) in
      record {
        goes = goes;
        begun = begun ∙ sofar.begun;
        can = can-lay-after m file seen from to q r w.laid.acts w.laid.steps.did.acted sofar.can;
        whole = whole;
        low = omega (arith, low, begins, reached);
        high = omega (arith, within, reached);
        meet = subst (λ n. Meet size from n to) (sym reached) (part-meets size m.geometry.folio_blocks from came.at end to part);
        room = subst (λ (v : IovView). HasNext v (to - next.at)) (sym w.moved) (subst (HasNext (past later (next.at - came.at))) k (next-past later (to - came.at) (next.at - came.at) sofar.room (omega (arith, begins, within, reached))));
        writes = part-then a b c p q r iov later last came next end less part sofar w;
      }

maps-may : (writes : Bool) (by : Tag) (e : Event) → IsTrue (maps writes e) → IsTrue (may_write by e)
maps-may writes by (event.Sample block most) is = refl
maps-may writes by (event.Reserve seen blocks) is = refl
maps-may writes by (event.Unreserve block blocks) is = refl
maps-may writes by e is = absurd (false≢true is)

module _ (m : MountView) (file : FileId) (by : Tag) where
  -- a step that maps lays nothing
  pub map-nothing : (writes : Bool) (lane : LaneView) (p q : PassView) (acts : List Act) (fault : Option Fault) → Steps m file (maps writes) lane lane p q acts → loans_in acts ≡ 0 → IfSome fault (IsCaused m (own_entries acts)) → LaysNothing m (may_write by) file lane lane p q 0 fault
  map-nothing writes lane p q acts fault steps none cause = nothing-may m file (maps writes) (may_write by) (maps-may writes by) lane lane p q 0 fault (map-step m file writes lane p q acts fault steps none cause)

  -- a step that lays nothing behind a write leaves what it laid, and its fault
  pub writes-quiet : (from to : ℕ) (a b c : LaneView) (p q r : PassView) (iov later : IovView) (came : Progress) → Writes m file by from to a b p q iov later came → LaysNothing m (may_write by) file b c q r 0 None → Writes m file by from to a c p r iov later came
  unfolding laid-quiet
  writes-quiet from to a b c p q r iov later came w n = record {
    laid = laid-quiet m (may_write by) file by from (drop iov.place iov.bytes) a b c p q r came w.laid n;
    few = reads-ended m file from to came.fault w.laid.acts n.acts w.few (n.sound refl) (let sent = n.sent in let none : loans_in n.acts ≡ 0 = omega (arith, sent) in none);
    moved = w.moved;
  }

  -- a mapping that was begun has some of the range
  pub mapped-some : (pos left end : ℕ) (p : PassView) (iomap : Iomap) → HasMapped m file pos p iomap → 0 < left → end ≡ min (iomap.offset + iomap.length) (pos + left) → pos < end
  mapped-some pos left end p iomap mapped some end_is = (let high = mapped.begins.to in omega (arith, high, some, end_is))

  -- what was written of the part of a range that a mapping has is written of the range
  pub writes-mapped : (n pos left end : ℕ) (a b : LaneView) (p q : PassView) (start : PassView) (iov later : IovView) (came : Progress) (iomap : Iomap) → n ≡ pos → 0 < m.geometry.block_size → pos < end → HasMapped m file pos start iomap → end ≡ min (iomap.offset + iomap.length) (pos + left)
      → Writes m file by n end a b p q iov later came → Writes m file by pos (pos + left) a b p q iov later came
  writes-mapped n pos left end a b p q start iov later came iomap is some less mapped end_is from_n =
      let w = subst (λ k. Writes m file by k end a b p q iov later came) is from_n in record {
        laid = w.laid;
        few = part-reads m file pos pos end (pos + left) some less (omega (arith, end_is)) (inl refl) (begun-goes m file pos left end start iomap (progress end 0 None) false (begun-of m file pos start iomap mapped) end_is refl) (le_refl pos) came.fault w.laid.acts w.few;
        moved = w.moved;
      }

  -- where work on a mapping ends, its range may be cut
  pub mapped-goes : (pos left end : ℕ) (p : PassView) (iomap : Iomap) (came : Progress) (stale : Bool) → HasMapped m file pos p iomap → end ≡ min (iomap.offset + iomap.length) (pos + left) → EndsAt m.geometry.block_size pos end came.at came.fault stale
      → GoesTo m.geometry.block_size pos (pos + left) came.at came.fault
  mapped-goes pos left end p iomap came stale mapped end_is ends = begun-goes m file pos left end p iomap came stale (begun-of m file pos p iomap mapped) end_is ends

-- what a loop over the mappings of a range keeps
pub record HasReached (m : MountView) (file : FileId) (by : Tag) (from to : ℕ) (a b : LaneView) (p q : PassView) (iov later : IovView) (came : Progress) (it : IterView) : Type 0 where
  pub goes : GoesOn m file by q
  pub whole : came.fault ≡ None
  pub file_is : it.file ≡ file
  pub pos : it.pos ≡ came.at
  pub left : it.pos + it.left ≡ to
  pub ended : it.unfinished ≡ None
  pub meet : Meet m.geometry.block_size from came.at to
  pub room : HasNext later it.left
  pub writes : Writes m file by from to a b p q iov later came

pub not-there : {A : Type 0} (o : Option A) → is_some o ≡ false → o ≡ None
not-there None no-fault = refl
not-there (Some x) no-fault = absurd (false≢true (sym no-fault))

-- a file that has bytes has blocks of some
pub end-some : (m : MountView) (file : FileId) (pos : ℕ) → pos < file_end m file → 0 < m.geometry.block_size
end-some m file pos less = at m.geometry.block_size (file_at m file).blocks less
  where
    at : (size n : ℕ) → pos < n * size → 0 < size
    at zero n below = absurd (omega (arith, below))
    at (suc size) n below = omega arith

-- before the first mapping
pub reached-none : (m : MountView) (file : FileId) (by : Tag) (from to : ℕ) (lane : LaneView) (p : PassView) (iov : IovView) (it : IterView) → from < to → to ≤ file_end m file → it ≡ whole_range file from (to - from) → GoesOn m file by p → HasNext iov (to - from)
    → HasReached m file by from to lane lane p p iov iov (progress from 0 None) it
reached-none m file by from to lane p iov it less within is goes room = record {
  goes = goes;
  whole = refl;
  file_is = ap (λ (v : IterView). v.file) is;
  pos = ap (λ (v : IterView). v.pos) is;
  left = ap (λ (v : IterView). v.pos + v.left) is ∙ (let z : from + (to - from) ≡ to = omega (arith, less) in z);
  ended = ap (λ (v : IterView). v.unfinished) is;
  meet = inl refl;
  room = subst (HasNext iov) (sym (ap (λ (v : IterView). v.left) is)) room;
  writes = none-writes m file by from to lane p iov (end-some m file from (omega (arith, less, within))) goes.of;
}

module _ (m : MountView) (file : FileId) (by : Tag) (from to : ℕ) (a b c : LaneView) (p q r : PassView) (iov later last : IovView) (came next : Progress) (it : IterView) (some : 0 < m.geometry.block_size) (rest : 0 < it.left) (sofar : HasReached m file by from to a b p q iov later came it) (w : Writes m file by it.pos (it.pos + it.left) b c q r later last next) where
  here : Writes m file by came.at to b c q r later last next
  here = subst (λ n. Writes m file by n to b c q r later last next) sofar.pos (subst (λ n. Writes m file by it.pos n b c q r later last next) sofar.left w)

  before-end : came.at < to
  before-end = (let left = sofar.left in let pos = sofar.pos in omega (arith, left, pos, rest))

  -- the next mapping's work follows what was written
  pub range-writes : (sum : Progress) → sum ≡ followed came next → Writes m file by from to a c p r iov last sum
  range-writes sum is =
      subst (Writes m file by from to a c p r iov last) (sym is)
      (writes-then m file by from to to a b c p q r iov later last came next some sofar.whole (meet-on m.geometry.block_size from came.at to next.at before-end sofar.meet)
      (part-reads m file from came.at to to some before-end (le_refl to) sofar.meet (inr (inl refl)) sofar.writes.laid.begins) sofar.writes here)

  meets : (fault : Option Fault) → fault ≡ None → GoesTo m.geometry.block_size it.pos (it.pos + it.left) next.at fault → Meet m.geometry.block_size from next.at to
  meets (Some fault) none goes = absurd (cc)
  meets None none (inl e) = subst (λ n. Meet m.geometry.block_size from n to) (sym (e ∙ sofar.pos)) sofar.meet
  meets None none (inr (inl e)) = inr (inl (e ∙ sofar.left))
  meets None none (inr (inr e)) = inr (inr e)

  -- without one it goes on behind the mapping
  pub range-on : (later-it : IterView) (sum : Progress) → sum ≡ followed came next → is_some sum.fault ≡ false → GoesOn m file by r → CameOn it later-it next.at → GoesTo m.geometry.block_size it.pos (it.pos + it.left) next.at next.fault → HasReached m file by from to a c p r iov last sum later-it
  range-on later-it sum is met goes on ends =
      let all = on.left in
      let low = w.laid.begins in
      let k : it.left - (next.at - it.pos) ≡ later-it.left = omega (arith, all, low) in
      let fault : sum.fault ≡ next.fault = ap (λ (v : Progress). v.fault) is in
      let at : sum.at ≡ next.at = ap (λ (v : Progress). v.at) is in
      let whole : sum.fault ≡ None = not-there sum.fault met in
      record {
        goes = goes;
        whole = whole;
        file_is = on.file ∙ sofar.file_is;
        pos = on.pos ∙ sym at;
        left = ap (λ n. n + later-it.left) on.pos ∙ all ∙ sofar.left;
        ended = on.ended;
        meet = subst (λ n. Meet m.geometry.block_size from n to) (sym at) (meets next.fault (sym fault ∙ whole) ends);
        room = subst (λ (v : IovView). HasNext v later-it.left) (sym w.moved) (subst (HasNext (past later (next.at - it.pos))) k (next-past later it.left (next.at - it.pos) sofar.room (omega (arith, all, low))));
        writes = range-writes sum is;
      }

module _ (m : MountView) (file : FileId) (by : Tag) where
  -- a write behind a step that laid nothing
  pub writes-in : {a b : LaneView} {p q : PassView} {iov later : IovView} {came : Progress} (it other : IterView) → it ≡ other → Writes m file by it.pos (it.pos + it.left) a b p q iov later came → Writes m file by other.pos (other.pos + other.left) a b p q iov later came
  writes-in {a} {b} {p} {q} {iov} {later} {came} it other is w = subst (λ (v : IterView). Writes m file by v.pos (v.pos + v.left) a b p q iov later came) is w

  pub writes-behind : (from to : ℕ) (a b c : LaneView) (p q r : PassView) (iov later last : IovView) (came : Progress) → 0 < m.geometry.block_size → later ≡ iov → LaysNothing m (may_write by) file a b p q 0 None → Writes m file by from to b c q r later last came → Writes m file by from to a c p r iov last came
  writes-behind from to a b c p q r iov later last came some same step w =
      let few = w.laid.bios in
      let n : min (0 + came.bios) (2 ^ 64 - 1) ≡ came.bios = omega (arith, few) in
      subst (Writes m file by from to a c p r iov last) (ap (λ k. progress came.at k came.fault) n)
      (writes-then m file by from to to a b c p q r iov later last (progress from 0 None) came some refl (inl refl) (λ f acts reads. reads) (quiet-writes m file by from to a b p q iov later None some same step) w)

  pub maps-step : (pos : ℕ) (p q : PassView) (iomap : Iomap) (lane : LaneView) → Maps m file pos true p q iomap → LaysNothing m (may_write by) file lane lane p q 0 None
  maps-step pos p q iomap lane maps = map-nothing m file by true lane p q maps.acts None (maps.steps lane) maps.loans tt

  pub maps-goes : (pos : ℕ) (p q : PassView) (iomap : Iomap) → Maps m file pos true p q iomap → GoesOn m file by p → GoesOn m file by q
  maps-goes pos p q iomap map goes = (let lane = lane_of 0 0 None in goes-on m file by (maps true) lane lane p q map.acts (map.steps lane) goes)

  -- where no mapping was begun nothing was written
  pub none-begun : (pos to at : ℕ) (p q : PassView) (iov : IovView) (fault : Fault) (lane : LaneView) → at ≡ pos → 0 < m.geometry.block_size → MapsNone m file true p q fault → Writes m file by pos to lane lane p q iov iov (progress at 0 (Some fault))
  none-begun pos to at p q iov fault lane is some maps =
      subst (λ n. Writes m file by pos to lane lane p q iov iov (progress n 0 (Some fault))) (sym is) (quiet-writes m file by pos to lane lane p q iov iov (Some fault) some refl (map-nothing m file by true lane p q maps.acts (Some fault) (maps.steps lane) maps.loans maps.cause))

  pub none-goes : (p q : PassView) (fault : Fault) → MapsNone m file true p q fault → GoesOn m file by p → GoesOn m file by q
  none-goes p q fault none goes = (let lane = lane_of 0 0 None in goes-on m file by (maps true) lane lane p q none.acts (none.steps lane) goes)

  -- an ended mapping lays nothing
  pub ended-step : (new : Bool) (p q : PassView) (lane : LaneView) → EndsMapping m file new p q → LaysNothing m (may_write by) file lane lane p q 0 None
  ended-step new p q lane ends = map-nothing m file by new lane p q ends.acts None (ends.steps lane) ends.loans tt

  pub ended-goes : (new : Bool) (p q : PassView) → EndsMapping m file new p q → GoesOn m file by p → GoesOn m file by q
  ended-goes new p q ends goes = (let lane = lane_of 0 0 None in goes-on m file by (maps new) lane lane p q ends.acts (ends.steps lane) goes)

-- a range of a file with bytes left begins before its end
pub begins-within : (m : MountView) (it : IterView) (iov : IovView) → IsToWrite m it iov → 0 < it.left → it.pos < file_end m it.file
begins-within m it iov range some = (let w = range.within in omega (arith, w, some))
