-- What one try to read a part of a file's bytes tells, and what the part comes to.
use Rattle.std.proofs.Common.{◌≡◌, ℕ, zero, ◌+◌, ◌-◌, ◌*◌, ◌<◌, ◌≤◌, min, inl, inr, Bool, true, false, Some, Ok, Err, List, [], ◌∷◌, ◌++◌, length, take, refl, sym, ap, ◌∙◌, subst, arith, append-nil, div-lt_iff_lt-mul, length-take, le-div_iff_mul-le}
use Rattle.std.specs.Prelude.{◌⊎◌, ◌/◌, ◌%◌, ◌^◌, All, IfSome, IsTrue, None, Option, Result, max, slice_get, unwrap_or}
use Rattle.std.proofs.lemmas.Bool.{cases_eq, false≢true}
use Rattle.std.proofs.lemmas.List.Elements.{All-append, All-cons, All-nil, All-weaker}
use Rattle.std.proofs.lemmas.Option.{none-some}
use Rattle.std.proofs.Math.Nat.{mul-mod_left}
use Rattle.iob_base.specs.Geometry.{is_block_size, is_folio_blocks}
use Rattle.iob_base.specs.declared.answer.Fault.{Fault}
use Rattle.iob_base.specs.declared.answer.Fault.TheVariants as fault
use Rattle.iob_base.specs.declared.stamp.FileId.{FileId}
use Rattle.iob_base.specs.declared.stamp.Tag.{Tag}
use Rattle.io_model.specs.Parts.{blocks_met, span}
use Rattle.iov_iter.specs.IovView.{IovView, written_on}
use Rattle.fault_device.specs.LaneView.{LaneView}
use Rattle.fault_device.specs.declared.lane.Done.{Done}
use Rattle.turn_cell.specs.Stakes.{total}
use Rattle.turn_cell.specs.Views.{CellView, SeatView}
use Rattle.range_core.specs.ByteRuns.{HasNext}
use Rattle.range_core.specs.EntryCounts.{lendings}
use Rattle.range_core.specs.EntryStamps.{stamps_in}
use Rattle.range_core.specs.Fetches.{replayed_run}
use Rattle.range_core.specs.Outcomes.{finished}
use Rattle.range_core.specs.RangeView.{RangeView, cells_from}
use Rattle.range_core.specs.Refusals.{away_with_page, cold, fetch_refusal, first_that_stops, is_cold, met, pageless_at, where_true, ◌orElse◌}
use Rattle.range_core.specs.Spots.{blocks_met as met_blocks}
use Rattle.range_core.specs.Stamps.{done_by}
use Rattle.range_core.specs.declared.cell.Cell.{Cell}
use Rattle.range_core.specs.declared.entry.Entry.{Entry}
use Rattle.range_core.specs.declared.entry.Event.{Event}
use Rattle.range_core.specs.declared.entry.Event.TheVariants as event
use Rattle.range_core.specs.declared.entry.Outcome.TheVariants as outcome
use Rattle.range_core.specs.declared.fault.EventFault.{EventFault}
use Rattle.range_core.specs.declared.fault.EventFault.TheVariants as refusal
use Rattle.range_core.specs.declared.lending.Away.{Away as AwayOn}
use Rattle.range_core.specs.declared.lending.Lender.{Lender}
use Rattle.range_core.specs.declared.lending.Lender.TheVariants as lender
use Rattle.mount_parts.specs.MountView.{HasBlock, HasFile, IsLaidOut, MountView, file_at, stripe_at}
use Rattle.mini_fs.specs.Acts.{Act, own_entries}
use Rattle.mini_fs.specs.Acts.Act.{Turn}
use Rattle.mini_fs.specs.CallActs.{CallActs, IsActAt, loans_in}
use Rattle.mini_fs.specs.Calls.{HasShares}
use Rattle.mini_fs.specs.Mappings.{file_end}
use Rattle.mini_fs.specs.PageTurns.{FetchedTo, entry_by}
use Rattle.mini_fs.specs.PassView.{IsPassOf, PassView, claims_of, share_at, share_in}
use Rattle.mini_fs.specs.Tickets.{KeepsTickets}
use Rattle.mini_fs.specs.Turns.{TurnsAt, block_at}
use Rattle.mini_fs.proofs.ActLemmas.{turned-act}
use Rattle.mini_fs.proofs.CallEnds.{acted-shares}
use Rattle.mini_fs.proofs.CallLemmas.{own_entries-append}
use Rattle.mini_fs.proofs.Layouts.{has_file, stripe-sizes}
use Rattle.call_parts.specs.Budgets.{AreSound, IsBehind, IsSound, LendsAmong, LendsFew}
use Rattle.call_parts.specs.Causes.{IsCaused}
use Rattle.call_parts.specs.Fills.{CameBack, Fills, IsRefusedLoan, fill_refused, fills}
use Rattle.call_parts.specs.Parts.{part_end}
use Rattle.buffered_read.specs.Preads.{HasReadFrom, ReadOn, ReadsFew, may_read, progress, stops_read}
use Rattle.call_parts.specs.Reads.{bytes_read, given_in, seen_at, seen_by}
use Rattle.call_parts.specs.Steps.{IsPlaced, IsQuiet, ServedBy, Steps, dones_in, is_quiet}
use Rattle.buffered_read.specs.Warms.{FailsBehind, TriesPart, came_by, told_fill}
use Rattle.call_parts.specs.declared.cold.Fill.{Fill}
use Rattle.call_parts.specs.declared.cold.Fill.TheVariants as fill
use Rattle.buffered_read.specs.declared.warm.Tried.{Tried}
use Rattle.buffered_read.specs.declared.warm.Tried.TheVariants as tried
use Rattle.call_parts.proofs.NumberLemmas.{own-tag}
use Rattle.call_parts.proofs.FewLemmas.{all-behind, few-then, few-wider}
use Rattle.call_parts.proofs.PartLemmas.{IsPart, div-mono, over-met, part-is}
use Rattle.buffered_read.proofs.ReadLemmas.{blocks-of, both, on-quiet, read-quiet, read-then}
use Rattle.call_parts.proofs.PlacedLemmas.{bare-placed, run-placed}
use Rattle.call_parts.proofs.ReadyLemmas.{folio-in-stripe, part-block, part-long, some-blocks, some-bytes}
use Rattle.call_parts.proofs.StepLemmas.{quiet-bytes, quiet-stamps, served-none, steps-may}
use Rattle.buffered_read.proofs.TryLemmas.{given-fetch}

-- loans and returns of reads into the cache are quiet, and a read may make them
fills-quiet : (e : Event) → IsTrue (fills e) → IsTrue (is_quiet e)
fills-quiet (event.LendRead block most) is = refl
fills-quiet (event.FillBack ticket block blocks done) is = refl
fills-quiet e is = absurd (false≢true is)

fills-read : (by : Tag) (e : Event) → IsTrue (fills e) → IsTrue (may_read by e)
fills-read by (event.LendRead block most) is = refl
fills-read by (event.FillBack ticket block blocks done) is = refl
fills-read by e is = absurd (false≢true is)

-- where the bytes of a part begin that lie in one of its blocks and behind it
module _ (size from to block start : ℕ) (some : 0 < size) (less : from < to) (last : block ≤ (to - 1) / size) (is : start ≡ max from (block * size)) where
  pub block-begins : block * size ≤ to - 1
  block-begins = grind (arith, le-div_iff_mul-le)

  start-within : (from ≤ start) × (start < to) × ((start ≡ from) ⊎ (start % size ≡ 0))
  start-within =
      let most = block-begins in (
        omega (arith, is),
        omega (arith, is, most, less),
        elim (cases_eq start from) [
          | inl e ↦ inl e
          | inr n ↦
              let here : start ≡ block * size = omega (arith, is, n) in
              inr (ap (λ k. k % size) here ∙ mul-mod_left block size)
        ],
      )

div-below : (a size block : ℕ) → 0 < size → a < block * size → a / size < block
div-below a size block some less = grind (arith, div-lt_iff_lt-mul)

-- a try to read cold blocks of a part from one of them on
module _ (m : MountView) (file : FileId) (by : Tag) (from to block most start : ℕ) (some : 0 < m.geometry.block_size) (less : from < to) (first : from / m.geometry.block_size ≤ block) (last : block ≤ (to - 1) / m.geometry.block_size) (start_is : start ≡ max from (block * m.geometry.block_size)) (a b : LaneView) (p q : PassView) (iov : IovView) where
  unfoldable fill-read : (acts : List Act) (bios : ℕ) (fault : Option Fault) → Steps m file fills a b p q acts → loans_in acts ≡ bios → bios ≡ min bios (2 ^ 64 - 1) → IfSome fault (IsCaused m (own_entries acts)) → IfSome fault (λ f. IsTrue (stops_read f))
      → HasReadFrom m file by from a b p q iov iov (progress from bios fault)
  fill-read acts bios fault s sent few cause kind =
      let quiet : All IsQuiet (own_entries acts) = All-weaker (λ (e : Entry). IsTrue (fills e.event)) IsQuiet (λ e is. fills-quiet e.event is) (own_entries acts) s.did.made in
      read-quiet m file by from a b p q iov acts bios fault (steps-may m file fills (may_read by) a b p q acts (fills-read by) s) (quiet-stamps m.geometry.block_size (own_entries acts) quiet) (quiet-bytes m p [] acts quiet) (on-quiet from (own_entries acts) quiet)
      (few ∙ ap (λ n. min n (2 ^ 64 - 1)) (sym sent)) cause kind

  back-loans : (acts : List Act) (done : Done) → CameBack p.caller block most (own_entries acts) done → loans_in acts ≡ 1
  back-loans acts done came = ap (total lendings) came.entries_are

  refused-loans : (acts : List Act) (fault : EventFault) → IsRefusedLoan p.caller block most (own_entries acts) fault → loans_in acts ≡ 0
  refused-loans acts fault refused = ap (total lendings) refused

  none-loans : (acts : List Act) → (own_entries acts ≡ []) ⊎ ((fault : EventFault) × IsRefusedLoan p.caller block most (own_entries acts) fault × (fill_refused fault ≡ fill.NoMemory)) → loans_in acts ≡ 0
  none-loans acts (inl none) = ap (total lendings) none
  none-loans acts (inr h) = refused-loans acts h.0 h.1

  -- the try lends blocks of the part
  fill-few : (fault : Option Fault) (acts : List Act) → LendsFew m file (λ b. true) block 1 fault acts → ReadsFew m file from to fault acts
  fill-few fault acts few = (let all = blocks-of m file some from to from to less in few-wider m file (λ b. true) block 1 (from / m.geometry.block_size) (blocks_met m.geometry.block_size (span from to)) fault acts first (omega (arith, all, last)) few)

  -- a block that begins behind others has its last byte before it in one of them
  blocks-before : (start ≡ from → ⊥) → from / m.geometry.block_size + blocks_met m.geometry.block_size (span from start) ≤ block
  blocks-before other =
      let size = m.geometry.block_size in
      let low : from < start = omega (arith, start_is, other) in
      let here : start ≡ block * size = omega (arith, start_is, other) in
      let all = blocks-of m file some from to from start low in
      let before : (start - 1) / size < block = div-below (start - 1) size block some (omega (arith, here, low)) in
      omega (arith, all, before)

  back-behind : (limit : ℕ) (acts : List Act) (done : Done) → limit ≤ block → CameBack p.caller block most (own_entries acts) done → All (λ (e : Entry). IsBehind limit e.event) (own_entries acts)
  back-behind limit acts done low came =
      subst (All (λ (e : Entry). IsBehind limit e.event)) (sym came.entries_are)
      (All-cons (λ (e : Entry). IsBehind limit e.event) (entry_by p.caller (event.LendRead block most) (outcome.Lending came.ticket came.blocks)) (entry_by p.caller (event.FillBack came.ticket block came.blocks done) outcome.Finished ∷ []) tt
      (All-cons (λ (e : Entry). IsBehind limit e.event) (entry_by p.caller (event.FillBack came.ticket block came.blocks done) outcome.Finished) [] (λ failed. low) (All-nil (λ (e : Entry). IsBehind limit e.event))))

  pub fill-tried : (f : Fill) → Fills m file block most a b p q f → TriesPart m file by from to a b p q iov iov (told_fill from start f)
  unfolding fill-read read-quiet
  fill-tried fill.Filled f = record { read = fill-read f.acts 1 None f.steps (back-loans f.acts f.came.0 f.came.1) refl tt tt; stops = tt; few = fill-few None f.acts f.few; behind = tt }
  fill-tried fill.Again f = record { read = fill-read f.acts 0 None f.steps (refused-loans f.acts f.came.0 f.came.1) refl tt tt; stops = tt; few = fill-few None f.acts f.few; behind = tt }
  fill-tried (fill.Failed at done) f = record {
    read = fill-read f.acts 1 (Some (fault.Eio done.lane done.before done.after)) f.steps (back-loans f.acts done f.came.1) refl
        (subst (λ es. IsCaused m es (fault.Eio done.lane done.before done.after)) (sym f.came.1.entries_are) (zero, done, refl, record { failed = f.came.2; lane_is = refl; before_is = refl; after_is = refl }))
        refl;
    stops = start-within m.geometry.block_size from to block start some less last start_is;
    few = fill-few (Some (fault.Eio done.lane done.before done.after)) f.acts f.few;
    behind = λ other. back-behind (from / m.geometry.block_size + blocks_met m.geometry.block_size (span from start)) f.acts done (blocks-before other) f.came.1;
  }
  fill-tried fill.NoMemory f = record { read = fill-read f.acts 0 (Some fault.NoMemory) f.steps (none-loans f.acts f.came) refl tt refl; stops = (omega arith, less, inl refl); few = fill-few (Some fault.NoMemory) f.acts f.few; behind = λ other. absurd (other refl) }

-- what a try asks of the blocks of a part from one of them on
module _ (m : MountView) (file : FileId) (laid : IsLaidOut m) (block_size : IsTrue (is_block_size m.geometry.block_size)) (folio_blocks : IsTrue (is_folio_blocks m.geometry.folio_blocks)) (from to block : ℕ) (less : from < to) (within : to ≤ file_end m file) (part : part_end m.geometry to from ≡ to)
    (first : from / m.geometry.block_size ≤ block) (last : block ≤ (to - 1) / m.geometry.block_size) where
  last-block : HasBlock m file ((to - 1) / m.geometry.block_size)
  last-block = part-block m file (to - 1) to (some-bytes m.geometry.block_size block_size) (omega (arith, less)) within

  pub fill-within : block + ((to - 1) / m.geometry.block_size + 1 - block) ≤ (file_at m file).blocks
  fill-within = (let has = last-block in omega (arith, has, last))

  pub fill-exists : HasFile m file
  fill-exists = has_file m file ((to - 1) / m.geometry.block_size) last-block

  one-folio : block / m.geometry.folio_blocks ≡ (to - 1) / m.geometry.block_size / m.geometry.folio_blocks
  one-folio =
      let n = m.geometry.folio_blocks in
      let some = some-blocks n folio_blocks in
      let whole : IsPart m.geometry.block_size n to from to = subst (IsPart m.geometry.block_size n to from) part (part-is m.geometry.block_size n to from (some-bytes m.geometry.block_size block_size) some less) in
      let same = whole.in_folio in
      let low = div-mono (from / m.geometry.block_size) block n some first in
      let high = div-mono block ((to - 1) / m.geometry.block_size) n some last in
      omega (arith, same, low, high)

  pub fill-stripe : block % 64 + ((to - 1) / m.geometry.block_size + 1 - block) ≤ 64
  fill-stripe = folio-in-stripe m.geometry.folio_blocks block ((to - 1) / m.geometry.block_size) folio_blocks last one-folio

  pub fill-share : (p : PassView) → HasShares m file 2 p → 1 < share_at p (stripe_at m file block)
  fill-share p shares = (let has = last-block in let share = shares block (omega (arith, has, last)) in omega (arith, share))

-- a cold block that hinders a fetch is one of those met
first-cold : (b block : ℕ) (cells : List Cell) → first_that_stops cold b cells ≡ Some (refusal.Cold block) → (b ≤ block) × (block < b + length cells)
first-cold b block [] e = absurd (none-some (refusal.Cold block) e)
first-cold b block (c ∷ cells) e = at (is_cold c) (first-cold (b + 1) block cells) e
  where
    at : (t : Bool) → (first_that_stops cold (b + 1) cells ≡ Some (refusal.Cold block) → (b + 1 ≤ block) × (block < b + 1 + length cells)) → (where_true t (refusal.Cold b) orElse first_that_stops cold (b + 1) cells) ≡ Some (refusal.Cold block)
        → (b ≤ block) × (block < b + length (c ∷ cells))
    at true rest e = (let same : b ≡ block = cc in (omega (arith, same), omega (arith, same)))
    at false rest e = (let h = rest e in let low = h.0 in let high = h.1 in (omega (arith, low), omega (arith, high)))

abbrev away_on : ℕ → Lender → AwayOn
away_on ticket lender = record { ticket = ticket; lender = lender }

lent-never : (b block ticket : ℕ) (l : Lender) → pageless_at b (Some (away_on ticket l)) ≡ Some (refusal.Cold block) → ⊥
lent-never b block ticket lender.Reading e = absurd (cc)
lent-never b block ticket lender.Writeback e = none-some (refusal.Cold block) e
lent-never b block ticket (lender.Direct by op) e = absurd (cc)
lent-never b block ticket (lender.Part by from to) e = absurd (cc)

pageless-never : (b block : ℕ) (o : Option AwayOn) → pageless_at b o ≡ Some (refusal.Cold block) → ⊥
pageless-never b block None e = none-some (refusal.Cold block) e
pageless-never b block (Some lent) e = lent-never b block lent.ticket lent.lender e

away-never : (b block : ℕ) (cells : List Cell) → first_that_stops away_with_page b cells ≡ Some (refusal.Cold block) → ⊥
away-never b block [] e = none-some (refusal.Cold block) e
away-never b block (c ∷ cells) e = at (away_with_page b c) (pageless-never b block c.away) (away-never (b + 1) block cells) e
  where
    at : (o : Option EventFault) → (o ≡ Some (refusal.Cold block) → ⊥) → (first_that_stops away_with_page (b + 1) cells ≡ Some (refusal.Cold block) → ⊥) → (o orElse first_that_stops away_with_page (b + 1) cells) ≡ Some (refusal.Cold block) → ⊥
    at None one rest e = rest e
    at (Some f) one rest e = one e

cold-of : (one two : Option EventFault) (block : ℕ) → (one ≡ Some (refusal.Cold block) → ⊥) → refusal.Cold block ≡ unwrap_or (one orElse two) refusal.NoMemory → two ≡ Some (refusal.Cold block)
cold-of None None block never e = absurd (cc)
cold-of None (Some f) block never e = ap Some (sym e)
cold-of (Some f) two block never e = absurd (never (ap Some (sym e)))

few-taken : (n : ℕ) (cells : List Cell) → length (take n cells) ≤ n
few-taken n cells = (let h = length-take n cells in omega (arith, h))

pub cold-met : (r : RangeView) (size from to block : ℕ) → r.geometry.block_size ≡ size → 0 < size → from < to → refusal.Cold block ≡ unwrap_or (fetch_refusal r from to) refusal.NoMemory → (from / size ≤ block) × (block ≤ (to - 1) / size)
cold-met r size from to block is some less e =
    let b = from / r.geometry.block_size in
    let here = first-cold b block (met r from to) (cold-of (first_that_stops away_with_page b (met r from to)) (first_that_stops cold b (met r from to)) block (away-never b block (met r from to)) e) in
    let few = few-taken (met_blocks r.geometry.block_size from to) (cells_from r b) in
    subst (λ n. (from / n ≤ block) × (block ≤ (to - 1) / n)) is
    (let low = here.0 in let high = here.1 in let le = div-mono from (to - 1) r.geometry.block_size (subst (λ n. 0 < n) (sym is) some) (omega (arith, less)) in (low, omega (arith, low, high, few, le)))

-- after a step that closed what it opened the shares are as many
pub shares-after : (m : MountView) (file : FileId) (may : Event → Bool) (n : ℕ) (p q : PassView) (acts : List Act) → 0 < n → CallActs m file may p q acts → HasShares m file n p → HasShares m file n q
shares-after m file may n p q acts some did shares b has = at (slice_get p.stripes k) refl
  where
    k : ℕ
    k = stripe_at m file b

    at : (o : Option (SeatView Entry)) → slice_get p.stripes k ≡ o → n ≤ share_at q k
    at None e = (let low = shares b has in let none : share_at p k ≡ 0 = ap share_in e in absurd (omega (arith, low, none, some)))
    at (Some seat) e = (let low = shares b has in let one : share_at p k ≡ seat.share = ap share_in e in let same = acted-shares acts p q did.acted did.closed k seat e in omega (arith, low, one, same))

-- a try after a turn that read nothing is a try with it
pub few-bios : (n sent most : ℕ) → n ≡ min sent most → min (0 + n) most ≡ n
few-bios n sent most is = omega (arith, is)

pub few-more : (n sent most : ℕ) → n ≡ min sent most → min (n + 0) most ≡ n
few-more n sent most is = omega (arith, is)

pub behind-after : (size from : ℕ) (t : Tried) (first next : List Act) → AreSound (own_entries first) → FailsBehind size from t (own_entries next) → FailsBehind size from t (own_entries (first ++ next))
behind-after size from tried.Read first next sound behind = tt
behind-after size from (tried.Again bios) first next sound behind = tt
behind-after size from (tried.Stopped at bios f) first next sound behind = λ other.
    (let limit = from / size + blocks_met size (span from at) in
    subst (All (λ (e : Entry). IsBehind limit e.event)) (sym (own_entries-append first next)) (All-append (λ (e : Entry). IsBehind limit e.event) (own_entries first) (own_entries next) (all-behind limit (own_entries first) sound) (behind other)))

pub tried-after : (m : MountView) (file : FileId) (by : Tag) (from to : ℕ) (a b c : LaneView) (p q r : PassView) (iov later last : IovView) (t : Tried) → 0 < m.geometry.block_size → IsPassOf m p → HasNext iov (to - from)
    → (first : HasReadFrom m file by from a b p q iov later (progress from 0 None)) → ReadsFew m file from to None first.acts → TriesPart m file by from to b c q r later last t → TriesPart m file by from to a c p r iov last t
unfolding read-then both
tried-after m file by from to a b c p q r iov later last t some of room first few next =
    let came = came_by from to t in
    let fits = room.within in
    tried-so (min (0 + came.bios) (2 ^ 64 - 1)) (few-bios came.bios (loans_in next.read.acts) (2 ^ 64 - 1) next.read.bios)
    (read-then m file by some from from a b c p q r iov later last (progress from 0 None) came of refl (omega (arith, fits)) (λ no. absurd (omega (arith, no))) first next.read)
    (few-then m file (λ b. true) (from / m.geometry.block_size) (blocks_met m.geometry.block_size (span from to)) came.fault first.acts next.read.acts few next.few)
    (behind-after m.geometry.block_size from t first.acts next.read.acts (few.sound refl) next.behind)
  where
    tried-so : (n : ℕ) → n ≡ (came_by from to t).bios → (read : HasReadFrom m file by from a c p r iov last (progress (came_by from to t).at n (came_by from to t).fault)) → ReadsFew m file from to (came_by from to t).fault read.acts → FailsBehind m.geometry.block_size from t (own_entries read.acts)
        → TriesPart m file by from to a c p r iov last t
    tried-so n same read few behind =
        subst (λ k. (read : HasReadFrom m file by from a c p r iov last (progress (came_by from to t).at k (came_by from to t).fault)) → ReadsFew m file from to (came_by from to t).fault read.acts → FailsBehind m.geometry.block_size from t (own_entries read.acts) → TriesPart m file by from to a c p r iov last t) (sym same)
        (λ read few behind. record { read = read; stops = next.stops; few = few; behind = behind }) read few behind

-- a fetch that was refused, or gave the bytes of its part
fetch-loans : (caller : ℕ) (by : Tag) (from to : ℕ) (answer : Result (Unit {0}) EventFault) → total lendings (entry_by caller (event.Fetch by from to) (finished answer) ∷ []) ≡ 0
fetch-loans caller by from to (Ok u) = refl
fetch-loans caller by from to (Err e) = refl

fetch-dones : (caller : ℕ) (by : Tag) (from to : ℕ) (answer : Result (Unit {0}) EventFault) → dones_in (entry_by caller (event.Fetch by from to) (finished answer) ∷ []) ≡ []
fetch-dones caller by from to (Ok u) = refl
fetch-dones caller by from to (Err e) = refl

refused-given : (o : Option (CellView RangeView)) (history : List Entry) (caller : ℕ) (by : Tag) (from to : ℕ) (e : EventFault) → given_in o history (entry_by caller (event.Fetch by from to) (outcome.Refused e)) ≡ []
refused-given None history caller by from to e = refl
refused-given (Some cell) history caller by from to e = refl

module _ (m : MountView) (file : FileId) (by : Tag) (from to : ℕ) (laid : IsLaidOut m) (block_size : IsTrue (is_block_size m.geometry.block_size)) (folio_blocks : IsTrue (is_folio_blocks m.geometry.folio_blocks)) (less : from < to) (within : to ≤ file_end m file) (part : part_end m.geometry to from ≡ to)
    (p q : PassView) (iov later : IovView) where
  has : HasBlock m file (block_at m from)
  has = part-block m file from to (some-bytes m.geometry.block_size block_size) less within

  abbrev pub Fetches : Result (Unit {0}) EventFault → Type 0
  Fetches answer = TurnsAt (λ opening history before after entry. FetchedTo by from to iov later opening history before after p.caller answer entry) m (stripe_at m file (block_at m from)) (claims_of p) (claims_of p) p q

  abbrev act_of : (answer : Result (Unit {0}) EventFault) → Fetches answer → Act
  act_of answer t = Turn (stripe_at m file (block_at m from)) t.turned.others t.turned.entry

  -- the blocks of the part lie in one stripe
  part-folds : from / m.geometry.block_size % 64 + ((to - 1) / m.geometry.block_size + 1 - from / m.geometry.block_size) ≤ 64
  part-folds =
      let size = m.geometry.block_size in
      let n = m.geometry.folio_blocks in
      let bytes = some-bytes size block_size in
      let whole : IsPart size n to from to = subst (IsPart size n to from) part (part-is size n to from bytes (some-blocks n folio_blocks) less) in
      folio-in-stripe n (from / size) ((to - 1) / size) folio_blocks (div-mono from (to - 1) size bytes (omega (arith, less))) whole.in_folio

  -- so a fetch leaves its stamps where it is made
  fetch-placed : (others : List Entry) (answer : Result (Unit {0}) EventFault) → IsPlaced m file (Turn (stripe_at m file (block_at m from)) others (entry_by p.caller (event.Fetch by from to) (finished answer)))
  fetch-placed others (Ok u) = run-placed m file (from / m.geometry.block_size) ((to - 1) / m.geometry.block_size + 1 - from / m.geometry.block_size) (done_by by) others (entry_by p.caller (event.Fetch by from to) outcome.Finished) part-folds refl
  fetch-placed others (Err e) = bare-placed m file (stripe_at m file (block_at m from)) others (entry_by p.caller (event.Fetch by from to) (outcome.Refused e)) refl

  pub fetch-steps : (lane : LaneView) → IsPassOf m q → KeepsTickets p q → (answer : Result (Unit {0}) EventFault) (t : Fetches answer) → Steps m file (may_read by) lane lane p q (act_of answer t ∷ [])
  fetch-steps lane mine tickets answer t =
      let own = t.turned.entry in
      let is = t.turned.done.entry_is in
      record {
        of = mine;
        did = record {
          acted = (q, turned-act t, refl);
          at_file = All-cons (IsActAt m file) (act_of answer t) [] (block_at m from, has, refl) (All-nil (IsActAt m file));
          made = All-cons (λ (e : Entry). IsTrue (may_read by e.event)) own [] (subst (λ (e : Entry). IsTrue (may_read by e.event)) (sym is) (own-tag by)) (All-nil (λ (e : Entry). IsTrue (may_read by e.event)));
          closed = λ k. refl;
        };
        locks = refl;
        sizes = refl;
        last = ap (λ (v : PassView). v.last) t.pass_is;
        callers = All-cons (λ (e : Entry). e.caller ≡ p.caller) own [] (ap (λ (e : Entry). e.caller) is) (All-nil (λ (e : Entry). e.caller ≡ p.caller));
        placed = All-cons (IsPlaced m file) (act_of answer t) [] (subst (λ (e : Entry). IsPlaced m file (Turn (stripe_at m file (block_at m from)) t.turned.others e)) (sym is) (fetch-placed t.turned.others answer)) (All-nil (IsPlaced m file));
        run = sym (ap (λ (e : Entry). total lendings (e ∷ [])) is ∙ fetch-loans p.caller by from to answer);
        lane = subst (ServedBy lane lane) (sym (ap (λ (e : Entry). dones_in (e ∷ [])) is ∙ fetch-dones p.caller by from to answer)) (served-none lane);
        tickets = tickets;
      }

  pub fetch-sent : (answer : Result (Unit {0}) EventFault) (t : Fetches answer) → 0 ≡ min (loans_in (act_of answer t ∷ [])) (2 ^ 64 - 1)
  fetch-sent answer t = ap (λ n. min n (2 ^ 64 - 1)) (sym (ap (λ (e : Entry). total lendings (e ∷ [])) t.turned.done.entry_is ∙ fetch-loans p.caller by from to answer))

  unfoldable pub fetch-read : (lane : LaneView) → IsPassOf m q → KeepsTickets p q → (u : Unit {0}) → Fetches (Ok u) → HasReadFrom m file by from lane lane p q iov later (progress to 0 None)
  fetch-read lane mine tickets u t =
      let size = m.geometry.block_size in
      let stripe = stripe_at m file (block_at m from) in
      let did = t.turned.done in
      let is = did.entry_is in
      let all = t.before.seen ++ t.turned.others in
      let given = given-fetch (slice_get m.stripes stripe) t.cell t.before.seen t.turned.others (seen_at p stripe) t.turned.entry by from to t.stand.cell_is (ap seen_by t.stand.seat_is) (ap (λ (e : Entry). e.event) is) (ap (λ (e : Entry). e.outcome) is) in
      let bytes : bytes_read m p [] (act_of (Ok u) t ∷ []) ≡ replayed_run t.cell.opening all from to = append-nil _ ∙ given in
      let long : length (replayed_run t.cell.opening all from to) ≡ to - from =
      subst (λ n. length (replayed_run t.cell.opening all from n) ≡ n - from) part (part-long m file laid block_size folio_blocks from to less within t.cell t.turned.value all t.turned.stakes t.stand.cell_is t.turned.stood.holds) in
      record {
        acts = act_of (Ok u) t ∷ [];
        steps = fetch-steps lane mine tickets (Ok u) t;
        begins = omega (arith, less);
        bytes = did.bytes ∙ ap (λ l. written_on l iov) (sym bytes);
        long = ap length bytes ∙ long;
        parts = subst (λ (e : Entry). ReadOn from to (e ∷ [])) (sym is) (refl, refl);
        stamps = ap (λ (e : Entry). stamps_in size (e ∷ [])) is ∙ append-nil _ ∙ sym (over-met size (some-bytes size block_size) (done_by by) from to less);
        cause = tt;
        kind = tt;
        bios = fetch-sent (Ok u) t;
      }

  -- a fetch lends nothing
  few-fetch : (stripe : ℕ) (others : List Entry) (low n : ℕ) (o : Option Fault) (answer : Result (Unit {0}) EventFault) → LendsFew m file (λ b. true) low n o (Turn stripe others (entry_by p.caller (event.Fetch by from to) (finished answer)) ∷ [])
  few-fetch stripe others low n o (Ok u) =
      let own = entry_by p.caller (event.Fetch by from to) outcome.Finished in
      record {
        among = All-cons (LendsAmong m file (λ b. true) low n) (Turn stripe others own) [] tt (All-nil (LendsAmong m file (λ b. true) low n));
        falls = (tt, tt);
        sound = λ none. All-cons (λ (e : Entry). IsSound e.event) own [] tt (All-nil (λ (e : Entry). IsSound e.event));
      }
  few-fetch stripe others low n o (Err e) =
      let own = entry_by p.caller (event.Fetch by from to) (outcome.Refused e) in
      record {
        among = All-cons (LendsAmong m file (λ b. true) low n) (Turn stripe others own) [] tt (All-nil (LendsAmong m file (λ b. true) low n));
        falls = (tt, tt);
        sound = λ none. All-cons (λ (e : Entry). IsSound e.event) own [] tt (All-nil (λ (e : Entry). IsSound e.event));
      }

  fetch-few : (o : Option Fault) (answer : Result (Unit {0}) EventFault) (t : Fetches answer) → ReadsFew m file from to o (act_of answer t ∷ [])
  fetch-few o answer t =
      let stripe = stripe_at m file (block_at m from) in
      subst (λ (e : Entry). ReadsFew m file from to o (Turn stripe t.turned.others e ∷ [])) (sym t.turned.done.entry_is) (few-fetch stripe t.turned.others (from / m.geometry.block_size) (blocks_met m.geometry.block_size (span from to)) o answer)

  pub fetch-tried : (lane : LaneView) → IsPassOf m q → KeepsTickets p q → (u : Unit {0}) → Fetches (Ok u) → TriesPart m file by from to lane lane p q iov later tried.Read
  unfolding fetch-read
  fetch-tried lane mine tickets u t = record { read = fetch-read lane mine tickets u t; stops = tt; few = fetch-few None (Ok u) t; behind = tt }

  -- nothing was read, and that is what stops the read, or nothing does
  unfoldable quiet-read : (lane : LaneView) → IsPassOf m q → KeepsTickets p q → (e : EventFault) → Fetches (Err e) → (o : Option Fault) → IfSome o (λ f. f ≡ fault.NoMemory) → HasReadFrom m file by from lane lane p q iov iov (progress from 0 o)
  quiet-read lane mine tickets e t o is =
      let size = m.geometry.block_size in
      let entry = t.turned.done.entry_is in
      read-quiet m file by from lane lane p q iov (act_of (Err e) t ∷ []) 0 o (fetch-steps lane mine tickets (Err e) t)
      (ap (λ (x : Entry). stamps_in size (x ∷ [])) entry)
      (ap (λ (x : Entry). bytes_read m p [] (Turn (stripe_at m file (block_at m from)) t.turned.others x ∷ [])) entry ∙ append-nil _ ∙ refused-given (slice_get m.stripes (stripe_at m file (block_at m from))) ((seen_at p (stripe_at m file (block_at m from)) ++ []) ++ t.turned.others) p.caller by from to e)
      (subst (λ (x : Entry). ReadOn from from (x ∷ [])) (sym entry) refl)
      (fetch-sent (Err e) t)
      (caused-memory (own_entries (act_of (Err e) t ∷ [])) o is)
      (kind-memory o is)
    where
      caused-memory : (entries : List Entry) (o : Option Fault) → IfSome o (λ f. f ≡ fault.NoMemory) → IfSome o (IsCaused m entries)
      caused-memory entries None none = tt
      caused-memory entries (Some f) same = subst (IsCaused m entries) (sym same) tt

      kind-memory : (o : Option Fault) → IfSome o (λ f. f ≡ fault.NoMemory) → IfSome o (λ f. IsTrue (stops_read f))
      kind-memory None none = tt
      kind-memory (Some f) same = subst (λ f. IsTrue (stops_read f)) (sym same) refl

  quiet-few : (lane : LaneView) (mine : IsPassOf m q) (tickets : KeepsTickets p q) (e : EventFault) (t : Fetches (Err e)) (o : Option Fault) (is : IfSome o (λ f. f ≡ fault.NoMemory)) → ReadsFew m file from to o (quiet-read lane mine tickets e t o is).acts
  unfolding quiet-read read-quiet
  quiet-few lane mine tickets e t o is = fetch-few o (Err e) t

  -- the part is to be tried again, or there was no memory for its pages
  pub away-tried : (lane : LaneView) → IsPassOf m q → KeepsTickets p q → (e : EventFault) → Fetches (Err e) → TriesPart m file by from to lane lane p q iov later (tried.Again 0)
  away-tried lane mine tickets e t =
      subst (λ v. TriesPart m file by from to lane lane p q iov v (tried.Again 0)) (sym t.turned.done.nothing)
      (record { read = quiet-read lane mine tickets e t None tt; stops = tt; few = quiet-few lane mine tickets e t None tt; behind = tt })

  pub memory-tried : (lane : LaneView) → IsPassOf m q → KeepsTickets p q → (e : EventFault) → Fetches (Err e) → TriesPart m file by from to lane lane p q iov later (tried.Stopped from 0 fault.NoMemory)
  memory-tried lane mine tickets e t =
      subst (λ v. TriesPart m file by from to lane lane p q iov v (tried.Stopped from 0 fault.NoMemory)) (sym t.turned.done.nothing)
      (record { read = quiet-read lane mine tickets e t (Some fault.NoMemory) refl; stops = (omega arith, less, inl refl); few = quiet-few lane mine tickets e t (Some fault.NoMemory) refl; behind = λ other. absurd (other refl) })

  -- a block was cold, and the part is tried after it
  pub cold-tried : (a c : LaneView) (r : PassView) (last : IovView) (tr : Tried) → IsPassOf m p → IsPassOf m q → KeepsTickets p q → HasNext iov (to - from) → (e : EventFault) → Fetches (Err e) → TriesPart m file by from to a c q r later last tr → TriesPart m file by from to a c p r iov last tr
  cold-tried a c r last tr of mine tickets room e t next =
      tried-after m file by from to a a c p q r iov iov last tr (some-bytes m.geometry.block_size block_size) of room (quiet-read a mine tickets e t None tt) (quiet-few a mine tickets e t None tt)
      (subst (λ v. TriesPart m file by from to a c q r v last tr) t.turned.done.nothing next)

  pub fetch-shares : (lane : LaneView) → IsPassOf m q → KeepsTickets p q → (e : EventFault) → Fetches (Err e) → (n : ℕ) → 0 < n → HasShares m file n p → HasShares m file n q
  fetch-shares lane mine tickets e t n some shares = shares-after m file (may_read by) n p q (act_of (Err e) t ∷ []) some (fetch-steps lane mine tickets (Err e) t).did shares

  pub refused-cold : (e : EventFault) (block : ℕ) → e ≡ refusal.Cold block → Fetches (Err e) → (from / m.geometry.block_size ≤ block) × (block ≤ (to - 1) / m.geometry.block_size)
  refused-cold e block is t = cold-met t.turned.value m.geometry.block_size from to block (ap (λ g. g.block_size) (t.turned.stood.holds.same_run.geometry ∙ stripe-sizes m (stripe_at m file (block_at m from)) t.cell laid t.stand.cell_is)) (some-bytes m.geometry.block_size block_size) less (sym is ∙ t.turned.done.refused)
