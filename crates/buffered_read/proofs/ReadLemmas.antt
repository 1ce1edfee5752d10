-- Bytes of a file read one after the other.
use Rattle.std.proofs.Common.{◌≡◌, ℕ, ◌+◌, ◌-◌, ◌<◌, ◌≤◌, ◌==◌, if◌then◌else◌, min, inl, inr, Some, List, [], ◌∷◌, ◌++◌, length, refl, sym, ap, ◌∙◌, subst, arith, append-nil, append_assoc, length-append}
use Rattle.std.specs.Prelude.{◌⊎◌, ◌^◌, ◌/◌, ◌%◌, true, false, nat_lt, All, IfSome, IsTrue, None, Option, slice_get}
use Rattle.std.proofs.lemmas.Bool.{cases_eq, false≢true, lt-ltb}
use Rattle.std.proofs.lemmas.Bool.Decides.{nat_tests}
use Rattle.std.proofs.lemmas.List.Elements.{All-head, All-tail}
use Rattle.std.proofs.lemmas.Option.{none-some}
use Rattle.iob_base.specs.declared.answer.Fault.{Fault}
use Rattle.iob_base.specs.declared.stamp.FileId.{FileId}
use Rattle.iob_base.specs.declared.stamp.Stamp.{Stamp}
use Rattle.iob_base.specs.declared.stamp.Tag.{Tag}
use Rattle.io_model.specs.Parts.{blocks_met, span}
use Rattle.iov_iter.specs.IovView.{IovView, written_on}
use Rattle.fault_device.specs.LaneView.{LaneView}
use Rattle.turn_cell.specs.Views.{CellView, SeatView}
use Rattle.range_core.specs.ByteRuns.{HasNext}
use Rattle.range_core.specs.EntryStamps.{stamps_in}
use Rattle.range_core.specs.RangeView.{RangeView}
use Rattle.range_core.specs.Stamps.{done_by, stamps_from}
use Rattle.range_core.specs.declared.entry.Entry.{Entry}
use Rattle.range_core.specs.declared.entry.Event.{Event}
use Rattle.range_core.specs.declared.entry.Event.TheVariants as event
use Rattle.range_core.specs.declared.entry.Outcome.{Outcome}
use Rattle.range_core.specs.declared.entry.Outcome.TheVariants as outcome
use Rattle.mount_parts.specs.MountView.{MountView}
use Rattle.mount_parts.proofs.Places.{same-length, there, within}
use Rattle.mini_fs.specs.Acts.{Act, Acted, own_entries, seen_in}
use Rattle.mini_fs.specs.Acts.Act.{Turn, SizeTurn, Busy, Open, Close, Take, Refused, Leave, Run, Note, Number}
use Rattle.mini_fs.specs.CallActs.{loans_in}
use Rattle.mini_fs.specs.PassView.{IsPassOf, PassView}
use Rattle.mini_fs.proofs.ActLemmas.{acted-seat}
use Rattle.mini_fs.proofs.CallLemmas.{loans-append, own_entries-append}
use Rattle.call_parts.specs.Causes.{IsCaused}
use Rattle.call_parts.specs.Parts.{stamps_over}
use Rattle.buffered_read.specs.Preads.{EndsAt, HasReadFrom, HasReadUpTo, ReadOn, ReadsFew, ReadsNext, may_read, progress, stops_read}
use Rattle.call_parts.specs.Reads.{bytes_of_act, bytes_read, given_in, seen_at, seen_by}
use Rattle.call_parts.specs.Steps.{IsQuiet, Steps, is_quiet}
use Rattle.buffered_read.specs.Warms.{more_bios}
use Rattle.call_parts.specs.declared.progress.Progress.{Progress}
use Rattle.call_parts.proofs.NumberLemmas.{stamps-append}
use Rattle.call_parts.proofs.FewLemmas.{few-none, few-then, few-wider}
use Rattle.call_parts.proofs.PartLemmas.{div-mono, over-none, over-parts}
use Rattle.buffered_read.proofs.SoFarLemmas.{next-written, read-append, written-more, written-none}
use Rattle.call_parts.proofs.StepLemmas.{caused-left, caused-right, steps-none, steps-then}

-- what a pass saw in acts put one after another
pub seen_in-append : (k : ℕ) (acts more : List Act) → seen_in k (acts ++ more) ≡ seen_in k acts ++ seen_in k more
seen_in-append k [] more = refl
seen_in-append k (Turn stripe others own ∷ acts) more =
    let mine : List Entry = if stripe == k then others ++ own ∷ [] else [] in
    ap (λ l. mine ++ l) (seen_in-append k acts more) ∙ sym (append_assoc mine (seen_in k acts) (seen_in k more))
seen_in-append k (SizeTurn cell others own ∷ acts) more = seen_in-append k acts more
seen_in-append k (Busy stripe word ∷ acts) more = seen_in-append k acts more
seen_in-append k (Open stripe ∷ acts) more = seen_in-append k acts more
seen_in-append k (Close stripe ∷ acts) more = seen_in-append k acts more
seen_in-append k (Take file c before after ∷ acts) more = seen_in-append k acts more
seen_in-append k (Refused file c before after ∷ acts) more = seen_in-append k acts more
seen_in-append k (Leave file c before after ∷ acts) more = seen_in-append k acts more
seen_in-append k (Run bios ∷ acts) more = seen_in-append k acts more
seen_in-append k (Note begun ∷ acts) more = seen_in-append k acts more
seen_in-append k (Number call ∷ acts) more = seen_in-append k acts more

-- Acts give the same bytes to the pass that others made, as they do after these others
module _ (m : MountView) (p q : PassView) (first : List Act) (of : IsPassOf m p) (acted : Acted first p q) where
  given-on : (stripe : ℕ) (before : List Act) (others : List Entry) (own : Entry)
      → given_in (slice_get m.stripes stripe) ((seen_at q stripe ++ seen_in stripe before) ++ others) own ≡ given_in (slice_get m.stripes stripe) ((seen_at p stripe ++ seen_in stripe (first ++ before)) ++ others) own
  given-on stripe before others own = at (slice_get m.stripes stripe) refl
    where
      at : (o : Option (CellView RangeView)) → slice_get m.stripes stripe ≡ o → given_in o ((seen_at q stripe ++ seen_in stripe before) ++ others) own ≡ given_in o ((seen_at p stripe ++ seen_in stripe (first ++ before)) ++ others) own
      at None e = refl
      at (Some cell) e =
          let long = same-length (λ (v : SeatView Entry). v.cell) (λ (c : CellView RangeView). c.cell) p.stripes m.stripes of.stripes in
          let low = within m.stripes stripe cell e in
          let here = there p.stripes stripe (omega (arith, long, low)) in
          let later = acted-seat stripe first p q here.0 acted here.1 in
          let seen : seen_at q stripe ≡ seen_at p stripe ++ seen_in stripe first = ap seen_by later.1 ∙ later.2.seen ∙ ap (λ o. seen_by o ++ seen_in stripe first) (sym here.1) in
          ap (λ l. given_in (Some cell) (l ++ others) own)
          (ap (λ l. l ++ seen_in stripe before) seen ∙ append_assoc (seen_at p stripe) (seen_in stripe first) (seen_in stripe before) ∙ ap (λ l. seen_at p stripe ++ l) (sym (seen_in-append stripe first before)))

  act-on : (before : List Act) (a : Act) → bytes_of_act m q before a ≡ bytes_of_act m p (first ++ before) a
  act-on before (Turn stripe others own) = given-on stripe before others own
  act-on before (SizeTurn cell others own) = refl
  act-on before (Busy stripe word) = refl
  act-on before (Open stripe) = refl
  act-on before (Close stripe) = refl
  act-on before (Take f c was now) = refl
  act-on before (Refused f c was now) = refl
  act-on before (Leave f c was now) = refl
  act-on before (Run bios) = refl
  act-on before (Note begun) = refl
  act-on before (Number call) = refl

  bytes-on : (before acts : List Act) → bytes_read m q before acts ≡ bytes_read m p (first ++ before) acts
  bytes-on before [] = refl
  bytes-on before (a ∷ acts) =
      ap (λ l. l ++ bytes_read m q (before ++ a ∷ []) acts) (act-on before a)
      ∙ ap (λ l. bytes_of_act m p (first ++ before) a ++ l) (bytes-on (before ++ a ∷ []) acts ∙ ap (λ l. bytes_read m p l acts) (sym (append_assoc first before (a ∷ []))))

  pub bytes-after : (acts : List Act) → bytes_read m p [] (first ++ acts) ≡ bytes_read m p [] first ++ bytes_read m q [] acts
  bytes-after acts = read-append m p [] first acts ∙ ap (λ l. bytes_read m p [] first ++ l) (ap (λ l. bytes_read m p l acts) (sym (append-nil first)) ∙ sym (bytes-on [] acts))

-- no bytes have no stamps
pub over-nothing : (size : ℕ) (stamp : Stamp) (from : ℕ) → stamps_over size (span from from) stamp ≡ []
over-nothing size stamp from = (let no : nat_lt from from ≡ false = grind (arith, nat_tests) in ap (λ b. stamps_from (from / size) (if b then (from - 1) / size + 1 - from / size else 0) stamp) no)

-- stamps of two runs of bytes that meet, where a block ends if both have bytes
pub over-joined : (size : ℕ) → 0 < size → (stamp : Stamp) (from next to : ℕ) → from ≤ next → next ≤ to → (from < next → next < to → next % size ≡ 0)
    → stamps_over size (span from next) stamp ++ stamps_over size (span next to) stamp ≡ stamps_over size (span from to) stamp
over-joined size some stamp from next to low high ends = elim (cases_eq from next) [
  | inl e ↦ ap (λ l. l ++ stamps_over size (span next to) stamp) (ap (λ n. stamps_over size (span n next) stamp) e ∙ over-none size some stamp next) ∙ ap (λ n. stamps_over size (span n to) stamp) (sym e)
  | inr other ↦ elim (cases_eq next to) [
    | inl e ↦
        ap (λ l. stamps_over size (span from next) stamp ++ l) (ap (λ n. stamps_over size (span next n) stamp) (sym e) ∙ over-none size some stamp next)
        ∙ append-nil (stamps_over size (span from next) stamp) ∙ ap (λ n. stamps_over size (span from n) stamp) e
    | inr more ↦
        let first : from < next = omega (arith, low, other) in
        let second : next < to = omega (arith, high, more) in
        over-parts size some stamp from next to first second (ends first second)
  ]
]

pub more-min : (a b most : ℕ) → min (min a most + min b most) most ≡ min (a + b) most
more-min a b most = omega arith

-- what caused a fault of a part caused it in the whole
pub if-caused-left : (m : MountView) (entries more : List Entry) (fault : Option Fault) → IfSome fault (IsCaused m entries) → IfSome fault (IsCaused m (entries ++ more))
if-caused-left m entries more None is = tt
if-caused-left m entries more (Some fault) is = caused-left m entries more fault is

pub if-caused-right : (m : MountView) (entries more : List Entry) (fault : Option Fault) → IfSome fault (IsCaused m more) → IfSome fault (IsCaused m (entries ++ more))
if-caused-right m entries more None is = tt
if-caused-right m entries more (Some fault) is = caused-right m entries more fault is

-- bytes that entries read, and then others behind them, follow on one another
next-more : (from : ℕ) (Rest More : ℕ → Type 0) → ((at : ℕ) → Rest at → More at) → (e : Event) (o : Outcome) → ReadsNext from Rest e o → ReadsNext from More e o
next-more from Rest More more (event.Fetch by low high) outcome.Finished is = (is.0, more high is.1)
next-more from Rest More more e o is = more from is

pub on-then : (from at to : ℕ) (entries more : List Entry) → ReadOn from at entries → ReadOn at to more → ReadOn from to (entries ++ more)
on-then from at to [] more first next = subst (λ n. ReadOn n to more) (sym first) next
on-then from at to (e ∷ entries) more first next = next-more from (λ n. ReadOn n at entries) (λ n. ReadOn n to (entries ++ more)) (λ n is. on-then n at to entries more is next) e.event e.outcome first

-- entries that give no bytes read none
quiet-next : (at : ℕ) (Rest : ℕ → Type 0) (e : Event) (o : Outcome) → IsTrue (is_quiet e) → Rest at → ReadsNext at Rest e o
quiet-next at Rest (event.Fetch by low high) o quiet rest = absurd (false≢true quiet)
quiet-next at Rest e o quiet rest = rest

pub on-quiet : (at : ℕ) (entries : List Entry) → All IsQuiet entries → ReadOn at at entries
on-quiet at [] quiet = refl
on-quiet at (e ∷ entries) quiet = quiet-next at (λ n. ReadOn n at entries) e.event e.outcome (All-head IsQuiet e entries quiet) (on-quiet at entries (All-tail IsQuiet e entries quiet))

module _ (m : MountView) (file : FileId) (by : Tag) where
  -- a step that gave no bytes and left no stamps, whatever fault it met
  unfoldable pub read-quiet : (from : ℕ) (a b : LaneView) (p q : PassView) (iov : IovView) (acts : List Act) (bios : ℕ) (fault : Option Fault) → Steps m file (may_read by) a b p q acts
      → stamps_in m.geometry.block_size (own_entries acts) ≡ [] → bytes_read m p [] acts ≡ [] → ReadOn from from (own_entries acts) → bios ≡ min (loans_in acts) (2 ^ 64 - 1)
      → IfSome fault (IsCaused m (own_entries acts)) → IfSome fault (λ f. IsTrue (stops_read f)) → HasReadFrom m file by from a b p q iov iov (progress from bios fault)
  read-quiet from a b p q iov acts bios fault steps stamps bytes parts sent cause kind = record {
    acts = acts;
    steps = steps;
    begins = omega arith;
    bytes = sym (written-none iov) ∙ ap (λ l. written_on l iov) (sym bytes);
    long = ap length bytes ∙ omega arith;
    parts = parts;
    stamps = stamps ∙ sym (over-nothing m.geometry.block_size (done_by by) from);
    cause = cause;
    kind = kind;
    bios = sent;
  }

  unfoldable pub read-none : (from : ℕ) (a : LaneView) (p : PassView) (iov : IovView) → IsPassOf m p → HasReadFrom m file by from a a p p iov iov (progress from 0 None)
  read-none from a p iov of = read-quiet from a a p p iov [] 0 None (steps-none m file (may_read by) a p of) refl refl refl refl tt tt

  -- bytes read after others, which meet where a block ends if both are some
  module _ (some : 0 < m.geometry.block_size) (from at : ℕ) (a b c : LaneView) (p q r : PassView) (iov later last : IovView) (first next : Progress) (of : IsPassOf m p) (meet : first.at ≡ at) (fits : iov.place + (at - from) ≤ length iov.bytes) (whole : from < at → at < next.at → at % m.geometry.block_size ≡ 0)
      (one : HasReadFrom m file by from a b p q iov later first) (two : HasReadFrom m file by at b c q r later last next) where
    unfoldable pub both : (fault : Option Fault) → IfSome fault (IsCaused m (own_entries one.acts ++ own_entries two.acts)) → IfSome fault (λ f. IsTrue (stops_read f))
        → HasReadFrom m file by from a c p r iov last (progress next.at (more_bios first.bios next.bios) fault)
    both fault cause kind =
        let size = m.geometry.block_size in
        let entries : own_entries (one.acts ++ two.acts) ≡ own_entries one.acts ++ own_entries two.acts = own_entries-append one.acts two.acts in
        let bytes = bytes-after m p q one.acts of one.steps.did.acted two.acts in
        let xs = bytes_read m p [] one.acts in
        let ys = bytes_read m q [] two.acts in
        let begins = one.begins in
        let goes_on = two.begins in
        let long = one.long in
        let more = two.long in
        let all = length-append xs ys in
        record {
          acts = one.acts ++ two.acts;
          steps = steps-then m file (may_read by) a b c p q r one.acts two.acts one.steps two.steps;
          begins = omega (arith, begins, goes_on, meet);
          bytes = two.bytes ∙ ap (written_on ys) one.bytes ∙ written-more xs ys iov (omega (arith, long, meet, fits)) ∙ ap (λ l. written_on l iov) (sym bytes);
          long = ap length bytes ∙ (let e : length (xs ++ ys) ≡ next.at - from = omega (arith, all, long, more, begins, goes_on, meet) in e);
          parts = subst (ReadOn from next.at) (sym entries) (on-then from at next.at (own_entries one.acts) (own_entries two.acts) (subst (λ n. ReadOn from n (own_entries one.acts)) meet one.parts) two.parts);
          stamps = ap (stamps_in size) entries ∙ stamps-append size (own_entries one.acts) (own_entries two.acts)
              ∙ ap (λ l. l ++ stamps_in size (own_entries two.acts)) (one.stamps ∙ ap (λ n. stamps_over size (span from n) (done_by by)) meet)
              ∙ ap (λ l. stamps_over size (span from at) (done_by by) ++ l) two.stamps
              ∙ over-joined size some (done_by by) from at next.at (omega (arith, begins, meet)) goes_on whole;
          cause = subst (λ es. IfSome fault (IsCaused m es)) (sym entries) cause;
          kind = kind;
          bios = ap (λ n. min (n + next.bios) (2 ^ 64 - 1)) one.bios ∙ ap (λ n. min (min (loans_in one.acts) (2 ^ 64 - 1) + n) (2 ^ 64 - 1)) two.bios
              ∙ more-min (loans_in one.acts) (loans_in two.acts) (2 ^ 64 - 1) ∙ ap (λ n. min n (2 ^ 64 - 1)) (sym (loans-append one.acts two.acts));
        }

    -- with the fault of the later ones, or with that of the first
    unfoldable pub read-then : HasReadFrom m file by from a c p r iov last (progress next.at (more_bios first.bios next.bios) next.fault)
    read-then = both next.fault (if-caused-right m (own_entries one.acts) (own_entries two.acts) next.fault two.cause) two.kind

    unfoldable pub read-kept : HasReadFrom m file by from a c p r iov last (progress next.at (more_bios first.bios next.bios) first.fault)
    read-kept = both first.fault (if-caused-left m (own_entries one.acts) (own_entries two.acts) first.fault one.cause) one.kind

-- what was read up to a place, with as many bios as are counted
pub read-up-to : (m : MountView) (file : FileId) (by : Tag) (from to : ℕ) (a b : LaneView) (p q : PassView) (iov later : IovView) (at n bios : ℕ) (fault : Option Fault) → n ≡ bios → (read : HasReadFrom m file by from a b p q iov later (progress at n fault))
    → EndsAt m.geometry.block_size from to at fault → ReadsFew m file from to fault read.acts → HasReadUpTo m file by from to a b p q iov later (progress at bios fault)
read-up-to m file by from to a b p q iov later at n bios fault same read stops few =
    subst (λ k. (read : HasReadFrom m file by from a b p q iov later (progress at k fault)) → ReadsFew m file from to fault read.acts → HasReadUpTo m file by from to a b p q iov later (progress at bios fault)) (sym same)
    (λ read few. record { read = read; stops = stops; few = few }) read few

-- blocks that have bytes of a part are blocks of the range
module _ (m : MountView) (file : FileId) (some : 0 < m.geometry.block_size) (from to : ℕ) where
  pub blocks-of : (low high : ℕ) → low < high → low / m.geometry.block_size + blocks_met m.geometry.block_size (span low high) ≡ (high - 1) / m.geometry.block_size + 1
  blocks-of low high less =
      let met : blocks_met m.geometry.block_size (span low high) ≡ (high - 1) / m.geometry.block_size + 1 - low / m.geometry.block_size = ap (λ b. if b then (high - 1) / m.geometry.block_size + 1 - low / m.geometry.block_size else 0) (lt-ltb low high less) in
      let order = div-mono low (high - 1) m.geometry.block_size some (omega (arith, less)) in
      omega (arith, met, order)

  pub reads-wider : (at end : ℕ) (fault : Option Fault) (acts : List Act) → from ≤ at → end ≤ to → at < end → ReadsFew m file at end fault acts → ReadsFew m file from to fault acts
  reads-wider at end fault acts begins ends less few =
      let one = blocks-of at end less in
      let all = blocks-of from to (omega (arith, begins, ends, less)) in
      let low = div-mono from at m.geometry.block_size some begins in
      let high = div-mono (end - 1) (to - 1) m.geometry.block_size some (omega (arith, ends)) in
      few-wider m file (λ b. true) (at / m.geometry.block_size) (blocks_met m.geometry.block_size (span at end)) (from / m.geometry.block_size) (blocks_met m.geometry.block_size (span from to)) fault acts low (omega (arith, one, all, high)) few

-- The first bytes of a range were read without a fault, up to where a block ends or to the end of the range
module _ (m : MountView) (file : FileId) (by : Tag) (from to : ℕ) where
  pub record IsReadSoFar (a b : LaneView) (p q : PassView) (iov later : IovView) (at bios : ℕ) : Type 0 where
    pub read : HasReadFrom m file by from a b p q iov later (progress at bios None)
    pub high : at ≤ to
    pub whole : from < at → at < to → at % m.geometry.block_size ≡ 0
    pub few : ReadsFew m file from to None read.acts

  pub so-far-none : from ≤ to → (a : LaneView) (p : PassView) (iov : IovView) → IsPassOf m p → IsReadSoFar a a p p iov iov from 0
  unfolding read-none read-quiet
  so-far-none order a p iov of = record { read = read-none m file by from a p iov of; high = order; whole = λ no. absurd (omega (arith, no)); few = few-none m file (λ b. true) (from / m.geometry.block_size) (blocks_met m.geometry.block_size (span from to)) None }

  -- the bytes that are left have room
  pub so-far-room : (a b : LaneView) (p q : PassView) (iov later : IovView) (at bios : ℕ) → HasNext iov (to - from) → IsReadSoFar a b p q iov later at bios → HasNext later (to - at)
  so-far-room a b p q iov later at bios room so =
      let begins = so.read.begins in
      let high = so.high in
      let rest : to - from - (at - from) ≡ to - at = omega (arith, begins, high) in
      subst (HasNext later) rest
      (subst (λ v. HasNext v (to - from - (at - from))) (sym so.read.bytes) (next-written iov (bytes_read m p [] so.read.acts) (to - from) (at - from) room so.read.long (omega (arith, high))))

  -- all of them were read
  pub so-far-all : (a b : LaneView) (p q : PassView) (iov later : IovView) (at bios : ℕ) → at ≡ to → IsReadSoFar a b p q iov later at bios → HasReadUpTo m file by from to a b p q iov later (progress at bios None)
  so-far-all a b p q iov later at bios all so = record { read = so.read; stops = all; few = so.few }

  -- the same of the place that was reached
  pub so-far-ends : (a b : LaneView) (p q : PassView) (iov later : IovView) (at bios reached : ℕ) → reached ≡ at → at ≡ to → IsReadSoFar a b p q iov later at bios → HasReadUpTo m file by from to a b p q iov later (progress reached bios None)
  so-far-ends a b p q iov later at bios reached is all so = subst (λ n. HasReadUpTo m file by from to a b p q iov later (progress n bios None)) (sym is) (so-far-all a b p q iov later at bios all so)

  -- those up to an end were to be read next
  module _ (some : 0 < m.geometry.block_size) (a b c : LaneView) (p q r : PassView) (iov later last : IovView) (at bios end : ℕ) (of : IsPassOf m p) (room : HasNext iov (to - from)) (so : IsReadSoFar a b p q iov later at bios) (less : at < end) (within : end ≤ to) (came : Progress) (next : HasReadUpTo m file by at end b c q r later last came) where
    unfoldable so-far-both : HasReadFrom m file by from a c p r iov last (progress came.at (more_bios bios came.bios) came.fault)
    so-far-both =
        let fits = room.within in
        let begins = so.read.begins in
        let high = so.high in
        read-then m file by some from at a b c p q r iov later last (progress at bios None) came of refl (omega (arith, fits, begins, high)) (λ first goes_on. so.whole first (omega (arith, less, within))) so.read next.read

    stops-there : (o : Option Fault) → EndsAt m.geometry.block_size at end came.at o → (f : Fault) → o ≡ Some f → EndsAt m.geometry.block_size from to came.at (Some f)
    stops-there None e f is = absurd (none-some f is)
    stops-there (Some g) e f is =
        let short = e.0 in
        (omega (arith, short, within), elim e.1 [ inl here ↦ at-begin here | inr block ↦ inr block ])
      where
        at-begin : came.at ≡ at → (came.at ≡ from) ⊎ (came.at % m.geometry.block_size ≡ 0)
        at-begin here = elim (cases_eq at from) [
          | inl first ↦ inl (here ∙ first)
          | inr other ↦ (let begins = so.read.begins in inr (ap (λ n. n % m.geometry.block_size) here ∙ so.whole (omega (arith, begins, other)) (omega (arith, less, within))))
        ]

    few-both : ReadsFew m file from to came.fault so-far-both.acts
    unfolding so-far-both read-then both
    few-both =
        let begins = so.read.begins in
        few-then m file (λ b. true) (from / m.geometry.block_size) (blocks_met m.geometry.block_size (span from to)) came.fault so.read.acts next.read.acts so.few
        (reads-wider m file some from to at end came.fault next.read.acts begins within less next.few)

    -- a fault stopped them
    so-far-stopped : (f : Fault) → came.fault ≡ Some f → HasReadUpTo m file by from to a c p r iov last (progress came.at (more_bios bios came.bios) (Some f))
    so-far-stopped f is = stopped came.fault is so-far-both few-both (stops-there came.fault next.stops f is)
      where
        stopped : (o : Option Fault) → o ≡ Some f → (read : HasReadFrom m file by from a c p r iov last (progress came.at (more_bios bios came.bios) o)) → ReadsFew m file from to o read.acts → EndsAt m.geometry.block_size from to came.at (Some f)
            → HasReadUpTo m file by from to a c p r iov last (progress came.at (more_bios bios came.bios) (Some f))
        stopped o same read few stops = subst (λ x. (read : HasReadFrom m file by from a c p r iov last (progress came.at (more_bios bios came.bios) x)) → ReadsFew m file from to x read.acts → HasReadUpTo m file by from to a c p r iov last (progress came.at (more_bios bios came.bios) (Some f))) (sym same) (λ read few. record { read = read; stops = stops; few = few }) read few

    -- the same with a count that is that
    pub so-far-short : (sum : ℕ) → sum ≡ more_bios bios came.bios → (f : Fault) → came.fault ≡ Some f → HasReadUpTo m file by from to a c p r iov last (progress came.at sum (Some f))
    so-far-short sum sum_is f is = subst (λ n. HasReadUpTo m file by from to a c p r iov last (progress came.at n (Some f))) (sym sum_is) (so-far-stopped f is)

    reached : (o : Option Fault) → EndsAt m.geometry.block_size at end came.at o → o ≡ None → came.at ≡ end
    reached None e is = e
    reached (Some f) e is = absurd (none-some f (sym is))

    -- nothing did
    so-far-then : (end < to → end % m.geometry.block_size ≡ 0) → came.fault ≡ None → IsReadSoFar a c p r iov last came.at (more_bios bios came.bios)
    so-far-then ends is =
        let there = reached came.fault next.stops is in
        gone-on came.fault is so-far-both few-both (omega (arith, there, within)) (λ first goes_on. ap (λ n. n % m.geometry.block_size) there ∙ ends (omega (arith, there, goes_on)))
      where
        gone-on : (o : Option Fault) → o ≡ None → (read : HasReadFrom m file by from a c p r iov last (progress came.at (more_bios bios came.bios) o)) → ReadsFew m file from to o read.acts → came.at ≤ to → (from < came.at → came.at < to → came.at % m.geometry.block_size ≡ 0)
            → IsReadSoFar a c p r iov last came.at (more_bios bios came.bios)
        gone-on o same read few high whole = subst (λ x. (read : HasReadFrom m file by from a c p r iov last (progress came.at (more_bios bios came.bios) x)) → ReadsFew m file from to x read.acts → IsReadSoFar a c p r iov last came.at (more_bios bios came.bios)) (sym same) (λ read few. record { read = read; high = high; whole = whole; few = few }) read few

    pub so-far-at : came.fault ≡ None → came.at ≡ end
    so-far-at is = reached came.fault next.stops is

    -- the same of a place and a count that are those
    pub so-far-next : (sum : ℕ) → sum ≡ more_bios bios came.bios → (end < to → end % m.geometry.block_size ≡ 0) → came.fault ≡ None → IsReadSoFar a c p r iov last end sum
    so-far-next sum sum_is ends is =
        subst (λ n. IsReadSoFar a c p r iov last end n) (sym sum_is) (subst (λ n. IsReadSoFar a c p r iov last n (more_bios bios came.bios)) (so-far-at is) (so-far-then ends is))
