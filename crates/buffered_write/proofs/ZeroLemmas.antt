-- What zeros tell of their parts, of a mapping, and of their range.
use Rattle.std.proofs.Common.{inl, inr, ◌≡◌, ℕ, ◌+◌, ◌-◌, ◌<◌, ◌≤◌, min, Bool, false, Some, None, refl, sym, ap, ◌∙◌, subst, arith, le_refl}
use Rattle.std.specs.Prelude.{◌^◌, IsTrue, Option, is_some}
use Rattle.std.proofs.lemmas.Bool.{false≢true}
use Rattle.iob_base.specs.declared.answer.Fault.{Fault}
use Rattle.iob_base.specs.declared.stamp.FileId.{FileId}
use Rattle.iob_base.specs.declared.stamp.Mode.{Mode}
use Rattle.iob_base.specs.declared.stamp.Tag.{Tag}
use Rattle.fault_device.specs.LaneView.{LaneView, lane_of}
use Rattle.iomap_core.specs.IterView.{IterView, whole_range}
use Rattle.iomap_core.specs.declared.mapping.Iomap.{Iomap}
use Rattle.range_core.specs.declared.entry.Event.{Event}
use Rattle.range_core.specs.declared.entry.Event.TheVariants as event
use Rattle.range_core.specs.declared.sample.Sample.{Sample}
use Rattle.mount_parts.specs.MountView.{MountView, file_at}
use Rattle.mini_fs.specs.CallActs.{loans_in}
use Rattle.mini_fs.specs.Mappings.{file_end}
use Rattle.mini_fs.specs.PassView.{PassView}
use Rattle.call_parts.specs.Maps.{EndsMapping, Maps, maps}
use Rattle.call_parts.specs.declared.progress.Progress.{Progress}
use Rattle.buffered_write.specs.Lays.{GoesAt, GoesTo, LaysNothing, LieUnder, Meet}
use Rattle.buffered_write.specs.Pwrites.{CameOn, followed, progress}
use Rattle.buffered_write.specs.Zeroes.{HasBegun, IsToZero, Zeroes, may_zero}
use Rattle.buffered_write.proofs.LayLemmas.{laid-quiet, nothing-may}
use Rattle.buffered_write.proofs.MappedLemmas.{begun-goes, map-step}
use Rattle.buffered_write.proofs.UnderLemmas.{goes-at, under-after, under-some}
use Rattle.buffered_write.proofs.WriteLemmas.{end-some, meet-on, not-there, part-meets}
use Rattle.buffered_write.proofs.ZeroPartLemmas.{none-zeroes, quiet-zeroes, zeroes-then}
use Rattle.buffered_write.proofs.PartReadLemmas.{part-reads, reads-ended}
use Rattle.call_parts.proofs.PartLemmas.{IsPart}

-- what a loop over the parts of a mapping keeps
pub record HasZeroed (m : MountView) (file : FileId) (by : Tag) (seen : Sample) (from to : ℕ) (a b : LaneView) (p q : PassView) (came : Progress) : Type 0 where
  pub goes : GoesAt m file by q
  pub begun : q.begun ≡ p.begun
  pub under : LieUnder m file seen from to q
  pub whole : came.fault ≡ None
  pub low : from ≤ came.at
  pub high : came.at ≤ to
  pub meet : Meet m.geometry.block_size from came.at to
  pub zeroes : Zeroes m file by from to a b p q came

module _ (m : MountView) (file : FileId) (by : Tag) (seen : Sample) (from to : ℕ) where
  pub zeroed-none : (lane : LaneView) (p : PassView) → GoesAt m file by p → LieUnder m file seen from to p → HasZeroed m file by seen from to lane lane p p (progress from 0 None)
  zeroed-none lane p goes under = (let some = under.some in record {
    goes = goes;
    begun = refl;
    under = under;
    whole = refl;
    low = omega arith;
    high = omega (arith, some);
    meet = inl refl;
    zeroes = none-zeroes m file by from to lane p (under-some m file seen from to p under) goes.of;
  })

  -- a part that follows the zeros so far
  pub zero-part-then : (a b c : LaneView) (p q r : PassView) (came next : Progress) (end : ℕ) → came.at < to → IsPart m.geometry.block_size m.geometry.folio_blocks to came.at end → HasZeroed m file by seen from to a b p q came → Zeroes m file by came.at end b c q r next → Zeroes m file by from to a c p r (followed came next)
  zero-part-then a b c p q r came next end less part sofar z =
      let size = m.geometry.block_size in
      let some = under-some m file seen from to q sofar.under in
      zeroes-then m file by from to end a b c p q r came next some sofar.whole (meet-on size from came.at to next.at less sofar.meet)
      (part-reads m file from came.at end to some part.some part.within sofar.meet (part-meets size m.geometry.folio_blocks from came.at end to part) sofar.low) sofar.zeroes z

  pub zeroed-on : (a b c : LaneView) (p q r : PassView) (came next : Progress) (end : ℕ) → came.at < to → IsPart m.geometry.block_size m.geometry.folio_blocks to came.at end → next.fault ≡ None → next.at ≡ end
      → HasZeroed m file by seen from to a b p q came → Zeroes m file by came.at end b c q r next → GoesAt m file by r → r.begun ≡ q.begun → HasZeroed m file by seen from to a c p r (followed came next)
  zeroed-on a b c p q r came next end less part whole reached sofar z goes begun =
      let size = m.geometry.block_size in
      let begins = part.some in
      let within = part.within in
      let low = sofar.low in
      record {
        goes = goes;
        begun = begun ∙ sofar.begun;
        under = under-after m file seen from to q r z.laid.acts z.laid.steps.did.acted sofar.under;
        whole = whole;
        low = omega (arith, low, begins, reached);
        high = omega (arith, within, reached);
        meet = subst (λ n. Meet size from n to) (sym reached) (part-meets size m.geometry.folio_blocks from came.at end to part);
        zeroes = zero-part-then a b c p q r came next end less part sofar z;
      }

maps-zero : (mode : Mode) (by : Tag) (e : Event) → IsTrue (maps false e) → IsTrue (may_zero mode by e)
maps-zero mode by (event.Sample block most) is = refl
maps-zero mode by e is = absurd (false≢true is)

module _ (m : MountView) (file : FileId) (by : Tag) where
  -- a step that lays nothing behind zeros leaves what they came to, and their fault
  pub zeroes-quiet : (from to : ℕ) (a b c : LaneView) (p q r : PassView) (came : Progress) → Zeroes m file by from to a b p q came → LaysNothing m (may_zero (file_at m file).mode by) file b c q r 0 None → Zeroes m file by from to a c p r came
  unfolding laid-quiet
  zeroes-quiet from to a b c p q r came z n = record {
    laid = laid-quiet m (may_zero (file_at m file).mode by) file by from _ a b c p q r came z.laid n;
    few = reads-ended m file from to came.fault z.laid.acts n.acts z.few (n.sound refl) (let sent = n.sent in let none : loans_in n.acts ≡ 0 = omega (arith, sent) in none);
    fault = z.fault;
  }

  -- and so does one before them
  pub zeroes-behind : (from to : ℕ) (a b c : LaneView) (p q r : PassView) (came : Progress) → 0 < m.geometry.block_size → LaysNothing m (may_zero (file_at m file).mode by) file a b p q 0 None → Zeroes m file by from to b c q r came → Zeroes m file by from to a c p r came
  zeroes-behind from to a b c p q r came some step z =
      let few = z.laid.bios in
      let n : min (0 + came.bios) (2 ^ 64 - 1) ≡ came.bios = omega (arith, few) in
      subst (Zeroes m file by from to a c p r) (ap (λ k. progress came.at k came.fault) n)
      (zeroes-then m file by from to to a b c p q r (progress from 0 None) came some refl (inl refl) (λ f acts reads. reads) (quiet-zeroes m file by from to a b p q None some step tt) z)

  pub zeroes-in : {a b : LaneView} {p q : PassView} {came : Progress} (it other : IterView) → it ≡ other → Zeroes m file by it.pos (it.pos + it.left) a b p q came → Zeroes m file by other.pos (other.pos + other.left) a b p q came
  zeroes-in {a} {b} {p} {q} {came} it other is z = subst (λ (v : IterView). Zeroes m file by v.pos (v.pos + v.left) a b p q came) is z

  -- zeros of the part of a range that a mapping has are zeros of the range
  pub zeroes-mapped : (n pos left end : ℕ) (a b : LaneView) (p q : PassView) (start : PassView) (came : Progress) (iomap : Iomap) → n ≡ pos → 0 < m.geometry.block_size → 0 < left → HasBegun m file pos start iomap → end ≡ min (iomap.offset + iomap.length) (pos + left)
      → Zeroes m file by n end a b p q came → Zeroes m file by pos (pos + left) a b p q came
  zeroes-mapped n pos left end a b p q start came iomap is some more begun end_is from_n =
      let z = subst (λ k. Zeroes m file by k end a b p q came) is from_n in
      let high = begun.begins.to in
      let less : pos < end = omega (arith, high, more, end_is) in
      record {
        laid = z.laid;
        few = part-reads m file pos pos end (pos + left) some less (omega (arith, end_is)) (inl refl) (begun-goes m file pos left end start iomap (progress end 0 None) false begun end_is refl) (le_refl pos) came.fault z.laid.acts z.few;
        fault = z.fault;
      }

  pub begun-step : (pos : ℕ) (p q : PassView) (iomap : Iomap) (lane : LaneView) → Maps m file pos false p q iomap → LaysNothing m (may_zero (file_at m file).mode by) file lane lane p q 0 None
  begun-step pos p q iomap lane map = nothing-may m file (maps false) (may_zero (file_at m file).mode by) (maps-zero (file_at m file).mode by) lane lane p q 0 None (map-step m file false lane p q map.acts None (map.steps lane) map.loans tt)

  pub begun-goes-at : (pos : ℕ) (p q : PassView) (iomap : Iomap) → Maps m file pos false p q iomap → GoesAt m file by p → GoesAt m file by q
  begun-goes-at pos p q iomap map goes = (let lane = lane_of 0 0 None in goes-at m file by (maps false) lane lane p q map.acts (map.steps lane) goes)

  -- an ended mapping lays nothing
  pub ended-step-zero : (new : Bool) (p q : PassView) (lane : LaneView) → new ≡ false → EndsMapping m file new p q → LaysNothing m (may_zero (file_at m file).mode by) file lane lane p q 0 None
  ended-step-zero new p q lane old ends =
      let end : EndsMapping m file false p q = subst (λ b. EndsMapping m file b p q) old ends in
      nothing-may m file (maps false) (may_zero (file_at m file).mode by) (maps-zero (file_at m file).mode by) lane lane p q 0 None (map-step m file false lane p q end.acts None (end.steps lane) end.loans tt)

  pub ended-goes-at : (new : Bool) (p q : PassView) → EndsMapping m file new p q → GoesAt m file by p → GoesAt m file by q
  ended-goes-at new p q ends goes = (let lane = lane_of 0 0 None in goes-at m file by (maps new) lane lane p q ends.acts (ends.steps lane) goes)

-- a range of a file with bytes left begins before its end
pub starts-within : (m : MountView) (it : IterView) → IsToZero m it → 0 < it.left → it.pos < file_end m it.file
starts-within m it range some = (let w = range.within in omega (arith, w, some))

-- what a loop over the mappings of a range keeps
pub record HasComeTo (m : MountView) (file : FileId) (by : Tag) (from to : ℕ) (a b : LaneView) (p q : PassView) (came : Progress) (it : IterView) : Type 0 where
  pub goes : GoesAt m file by q
  pub whole : came.fault ≡ None
  pub file_is : it.file ≡ file
  pub pos : it.pos ≡ came.at
  pub left : it.pos + it.left ≡ to
  pub ended : it.unfinished ≡ None
  pub meet : Meet m.geometry.block_size from came.at to
  pub zeroes : Zeroes m file by from to a b p q came

-- before the first mapping
pub come-none : (m : MountView) (file : FileId) (by : Tag) (from to : ℕ) (lane : LaneView) (p : PassView) (it : IterView) → from < to → to ≤ file_end m file → it ≡ whole_range file from (to - from) → GoesAt m file by p → HasComeTo m file by from to lane lane p p (progress from 0 None) it
come-none m file by from to lane p it less within is goes = record {
  goes = goes;
  whole = refl;
  file_is = ap (λ (v : IterView). v.file) is;
  pos = ap (λ (v : IterView). v.pos) is;
  left = ap (λ (v : IterView). v.pos + v.left) is ∙ (let z : from + (to - from) ≡ to = omega (arith, less) in z);
  ended = ap (λ (v : IterView). v.unfinished) is;
  meet = inl refl;
  zeroes = none-zeroes m file by from to lane p (end-some m file from (omega (arith, less, within))) goes.of;
}

module _ (m : MountView) (file : FileId) (by : Tag) (from to : ℕ) (a b c : LaneView) (p q r : PassView) (came next : Progress) (it : IterView) (some : 0 < m.geometry.block_size) (rest : 0 < it.left) (sofar : HasComeTo m file by from to a b p q came it) (z : Zeroes m file by it.pos (it.pos + it.left) b c q r next) where
  here : Zeroes m file by came.at to b c q r next
  here = subst (λ n. Zeroes m file by n to b c q r next) sofar.pos (subst (λ n. Zeroes m file by it.pos n b c q r next) sofar.left z)

  before-end : came.at < to
  before-end = (let left = sofar.left in let pos = sofar.pos in omega (arith, left, pos, rest))

  -- the next mapping's zeros follow those so far
  pub range-zeroes : (sum : Progress) → sum ≡ followed came next → Zeroes m file by from to a c p r sum
  range-zeroes sum is =
      subst (Zeroes m file by from to a c p r) (sym is)
      (zeroes-then m file by from to to a b c p q r came next some sofar.whole (meet-on m.geometry.block_size from came.at to next.at before-end sofar.meet)
      (part-reads m file from came.at to to some before-end (le_refl to) sofar.meet (inr (inl refl)) sofar.zeroes.laid.begins) sofar.zeroes here)

  meets : (fault : Option Fault) → fault ≡ None → GoesTo m.geometry.block_size it.pos (it.pos + it.left) next.at fault → Meet m.geometry.block_size from next.at to
  meets (Some fault) none goes = absurd (cc)
  meets None none (inl e) = subst (λ n. Meet m.geometry.block_size from n to) (sym (e ∙ sofar.pos)) sofar.meet
  meets None none (inr (inl e)) = inr (inl (e ∙ sofar.left))
  meets None none (inr (inr e)) = inr (inr e)

  -- without a fault it goes on behind the mapping
  pub range-goes-on : (later : IterView) (sum : Progress) → sum ≡ followed came next → is_some sum.fault ≡ false → GoesAt m file by r → CameOn it later next.at → GoesTo m.geometry.block_size it.pos (it.pos + it.left) next.at next.fault → HasComeTo m file by from to a c p r sum later
  range-goes-on later sum is met goes on ends =
      let all = on.left in
      let fault : sum.fault ≡ next.fault = ap (λ (v : Progress). v.fault) is in
      let at : sum.at ≡ next.at = ap (λ (v : Progress). v.at) is in
      let whole : sum.fault ≡ None = not-there sum.fault met in
      record {
        goes = goes;
        whole = whole;
        file_is = on.file ∙ sofar.file_is;
        pos = on.pos ∙ sym at;
        left = ap (λ n. n + later.left) on.pos ∙ all ∙ sofar.left;
        ended = on.ended;
        meet = subst (λ n. Meet m.geometry.block_size from n to) (sym at) (meets next.fault (sym fault ∙ whole) ends);
        zeroes = range-zeroes sum is;
      }
