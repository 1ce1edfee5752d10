use Rattle.std.proofs.Common.{◌≡◌, Bool, ◌&&◌, not, None, Some, refl, ℕ, ◌+◌, ◌-◌, ◌≤◌, List, ◌++◌, Ok, All, drop, length, take, sym, ◌∙◌, ap, subst, arith}
use Rattle.std.specs.Prelude.{nat_le}
use Rattle.iob_base.specs.DeviceBlock.{DeviceBlock}
use Rattle.iob_base.specs.declared.TheConstants.{WORN}
use Rattle.iob_base.specs.declared.stamp.Stamp.{Stamp}
use Rattle.space_pool.specs.Claims.{Fits, with_more, with_taken}
use Rattle.space_pool.specs.Pool.{HasSize, PoolView}
use Rattle.space_pool.specs.Seats.{pool_cell}
use Rattle.turn_cell.specs.Seats.{seat_claims, seat_view}
use Rattle.turn_cell.specs.Stakes.{total}
use Rattle.range_core.specs.BlockTruth.{is_gone}
use Rattle.range_core.specs.ByteRuns.{HasNext}
use Rattle.range_core.specs.Cells.{IsPlaced}
use Rattle.range_core.specs.DaxPuts.{CanPutDax, LeavesPut, PutsDax, RefusesPut, holes_met, put, put_placed}
use Rattle.range_core.specs.EntryCounts.{one_where}
use Rattle.range_core.specs.Judges.{Judges}
use Rattle.range_core.specs.Kinds.{is_mapped}
use Rattle.range_core.specs.OnRun.{count_on, on_each}
use Rattle.range_core.specs.Placing.{is_empty, placed_at}
use Rattle.range_core.specs.PoolTurns.{PoolPlace, ReservesAt, TakesAt, TurnsFor, place_at}
use Rattle.range_core.specs.RangeView.{IsSound, LiesAt, RangeView, range_view}
use Rattle.range_core.specs.Refusals.{◌orElse◌, dax_put_refusal, where_true, worn}
use Rattle.range_core.specs.Space.{SpaceClaims}
use Rattle.range_core.specs.Stamps.{done_by, stamps_from}
use Rattle.range_core.specs.Spots.{blocks_met}
use Rattle.range_core.specs.Stores.{next_bytes, past}
use Rattle.range_core.specs.contracts.range.Range.put_through.F-FnMut.{words}
use Rattle.range_core.specs.declared.cell.Cell.{Cell}
use Rattle.range_core.specs.declared.fault.EventFault.TheVariants.{Stale, Worn}
use Rattle.range_core.specs.declared.parts.ByteRun.{ByteRun}
use Rattle.range_core.proofs.DaxPutLemmas.{empty-spaceless, full_placed, put_gone, put_sound}
use Rattle.range_core.proofs.OnRunLemmas.{length-on_each, on_each-twice}
use Rattle.range_core.proofs.PlaceSpace.{HasPromised, placed_gone, placed_sound, promised_holes}
use Rattle.range_core.proofs.ReserveLemmas.{fits_holes}
use Rattle.range_core.proofs.PutAnswers.{put_held, put_left, put_lost, put_refused_for, put_starved, put_stays}
use Rattle.range_core.proofs.SoundLemmas.{gone-within}
use Rattle.range_core.proofs.StoreLemmas.{length-next_bytes}
use Rattle.range_core.proofs.range.Range.put_through.Goals as goal

pub reserve_judged-requires-clause-fits : goal.reserve_judged-requires-clause-fits
reserve_judged-requires-clause-fits g c =
    let r = c.self.inside in
    let low : ℕ = c.byte_run-run.result.first - r.first in
    let n : ℕ = c.byte_run-run.result.blocks in
    let holes : c.count_run-holes.result ≡ count_on is_empty low n r.cells.items = c.count_run-holes.ensures.count ∙ ap (count_on is_empty low n) c.deref.ensures.value in
    let F : ℕ → Type 0 = λ m. Fits (seat_claims r.seat).facts m in
    subst F (sym holes) (fits_holes r.geometry.block_size low n r.cells.items (seat_claims r.seat).facts c.self.invariant.0.space)

pub put_run-requires-clause-high : goal.put_run-requires-clause-high
put_run-requires-clause-high g c =
    let r = c.self.inside in
    let run : ByteRun = c.byte_run-run.result in
    let low : ℕ = run.first - r.first in
    let view : RangeView = range_view r.geometry r.mode r.first r.cells.items r.log.items r.cookie r.errors r.tickets (seat_view r.seat) (seat_claims r.seat).facts in
    let C : RangeView → Type 0 = λ v. CanPutDax v c.args.seen c.args.from c.args.to c.args.iov.now in
    let can : C view = subst C (sym c.self.view_is) c.requires.can in
    let L : ByteRun → Type 0 = λ b. LiesAt view b.first b.blocks in
    let lies : L run = subst L (sym c.byte_run-run.ensures.run) can.bytes.lies in
    let many : length c.place_run.new.cells.items ≡ length r.cells.items = ap length c.place_run.ensures ∙ length-on_each (placed_at is_empty low r.cells.items c.take_at.new.into.items) 0 low run.blocks r.cells.items in
    omega (arith, many, lies.high, c.place_run.new.cells.ok.0)

pub put_run-requires-clause-full : goal.put_run-requires-clause-full
put_run-requires-clause-full g c =
    let r = c.self.inside in
    let run : ByteRun = c.byte_run-run.result in
    let low : ℕ = run.first - r.first in
    let n : ℕ = run.blocks in
    let was : List Cell = r.cells.items in
    let sectors : List DeviceBlock = c.take_at.new.into.items in
    let claims : SpaceClaims = (seat_claims r.seat).facts in
    let view : RangeView = range_view r.geometry r.mode r.first was r.log.items r.cookie r.errors r.tickets (seat_view r.seat) claims in
    let C : RangeView → Type 0 = λ v. CanPutDax v c.args.seen c.args.from c.args.to c.args.iov.now in
    let can : C view = subst C (sym c.self.view_is) c.requires.can in
    let L : ByteRun → Type 0 = λ b. LiesAt view b.first b.blocks in
    let lies : L run = subst L (sym c.byte_run-run.ensures.run) can.bytes.lies in
    let first = lies.low in
    let last = lies.high in
    let within : low + n ≤ length was = omega (arith, first, last) in
    let holes : c.count_run-holes.result ≡ count_on is_empty low n was = c.count_run-holes.ensures.count ∙ ap (count_on is_empty low n) c.deref.ensures.value in
    let size : run.size ≡ r.geometry.block_size = ap (λ (b : ByteRun). b.size) c.byte_run-run.ensures.run in
    let base : (seat_claims c.reserve_judged.new.seat).facts ≡ with_more claims c.count_run-holes.result = c.in_default-reserve_judged.ensures.ok.claims in
    let sized : (seat_claims c.reserve_judged.new.seat).facts.size ≡ run.size = ap (λ (s : SpaceClaims). s.size) base ∙ c.self.invariant.0.space.sized ∙ sym size in
    let W : ℕ → Type 0 = λ m. All (HasSize m) sectors in
    let P : ℕ → Type 0 = λ m. All (IsPlaced m) was in
    full_placed run r.first was c.place_run.new.cells.items sectors within (c.take_at.ensures.count ∙ holes) (subst W sized c.take_at.ensures.sized) (subst P (sym size) c.self.invariant.0.places) can.uncached c.place_run.ensures

pub invariant_of-self-2 : goal.invariant_of-self-2
invariant_of-self-2 g c =
    let r = c.self.inside in
    let run : ByteRun = c.byte_run-run.result in
    let low : ℕ = run.first - r.first in
    let n : ℕ = run.blocks in
    let was : List Cell = r.cells.items in
    let placed : List Cell = c.place_run.new.cells.items in
    let sectors : List DeviceBlock = c.take_at.new.into.items in
    let claims : SpaceClaims = (seat_claims r.seat).facts in
    let view : RangeView = range_view r.geometry r.mode r.first was r.log.items r.cookie r.errors r.tickets (seat_view r.seat) claims in
    let C : RangeView → Type 0 = λ v. CanPutDax v c.args.seen c.args.from c.args.to c.args.iov.now in
    let can : C view = subst C (sym c.self.view_is) c.requires.can in
    let L : ByteRun → Type 0 = λ b. LiesAt view b.first b.blocks in
    let lies : L run = subst L (sym c.byte_run-run.ensures.run) can.bytes.lies in
    let first = lies.low in
    let last = lies.high in
    let within : low + n ≤ length was = omega (arith, first, last) in
    let holes : c.count_run-holes.result ≡ count_on is_empty low n was = c.count_run-holes.ensures.count ∙ ap (count_on is_empty low n) c.deref.ensures.value in
    let size : run.size ≡ r.geometry.block_size = ap (λ (b : ByteRun). b.size) c.byte_run-run.ensures.run in
    let told : (seat_claims c.reserve_judged.new.seat).facts ≡ with_more claims c.count_run-holes.result = c.in_default-reserve_judged.ensures.ok.claims in
    let base : (seat_claims c.reserve_judged.new.seat).facts ≡ with_more claims (count_on is_empty low n was) = told ∙ ap (with_more claims) holes in
    let H : SpaceClaims → Type 0 = λ s. HasPromised r.geometry.block_size was (total (λ d. one_where (is_empty d)) (take n (drop low was))) s in
    let had = subst H (sym base) (promised_holes r.geometry.block_size low n was claims c.self.invariant.0.space) in
    let cookie : ℕ = c.next_cookie-self-inside.result in
    let between : RangeView = range_view r.geometry r.mode r.first placed r.log.items cookie r.errors r.tickets (seat_view c.take_at.new.seat) (seat_claims c.take_at.new.seat).facts in
    let sound : IsSound between = placed_sound is_empty (λ d. one_where (is_empty d)) view low n placed sectors (seat_claims c.reserve_judged.new.seat).facts _ cookie (seat_view c.take_at.new.seat) empty-spaceless within c.place_run.ensures (c.take_at.ensures.count ∙ holes) had c.take_at.ensures.sized
    c.take_at.ensures.claims c.take_at.ensures.distinct c.self.invariant.0 in
    let many : length placed ≡ length was = ap length c.place_run.ensures ∙ length-on_each (placed_at is_empty low was sectors) 0 low n was in
    let here : LiesAt between run.first n = record { low = first; some = lies.some; high = omega (arith, many, last) } in
    let N : ByteRun → Type 0 = λ b. HasNext c.args.iov.now (b.to - b.from) in
    let room : N run = subst N (sym c.byte_run-run.ensures.run) can.room in
    let bytes : List ℕ = next_bytes c.args.iov.now (run.to - run.from) in
    let log : c.add.new.self.items ≡ r.log.items ++ stamps_from run.first n c.stamp_done.result = c.add.ensures.items ∙ ap (λ l. l ++ stamps_from run.first n c.stamp_done.result) c.reserve.ensures.items in
    let gone : total is_gone c.put_run.new.cells.items ≡ total is_gone was =
    ap (total is_gone) c.put_run.ensures.cells ∙ put_gone run bytes low n placed ∙ placed_gone is_empty (λ d. one_where (is_empty d)) view low n placed sectors c.place_run.ensures in (
      put_sound run bytes between c.put_run.new.cells.items c.add.new.self.items c.stamp_done.result c.byte_run-run.ensures.met (length-next_bytes c.args.iov.now (run.to - run.from) room) size here sound c.put_run.ensures.cells log,
      omega (arith, gone, gone-within was, c.add.ensures.few, c.add.ensures.kept, c.in-Ok.ensures.ok, c.len.ensures, r.cells.ok.0),
    )

pub returns-clause-answers : goal.returns-clause-answers
returns-clause-answers g c =
    let r = c.self.inside in
    let run : ByteRun = c.byte_run-run.result in
    let was : List Cell = r.cells.items in
    let sectors : List DeviceBlock = c.take_at.new.into.items in
    let claims : SpaceClaims = (seat_claims r.seat).facts in
    let opened : PoolView = (pool_cell c.args.space.now).opening in
    let view : RangeView = range_view r.geometry r.mode r.first was r.log.items r.cookie r.errors r.tickets (seat_view r.seat) claims in
    let count : ByteRun → ℕ = λ b. count_on is_empty (b.first - r.first) b.blocks was in
    let cells_at : ByteRun → List Cell = λ b. on_each (put_placed b (next_bytes c.args.iov.now (b.to - b.from)) (b.first - r.first) was sectors) 0 (b.first - r.first) b.blocks was in
    let log_at : ByteRun → List (ℕ × Stamp) = λ b. r.log.items ++ stamps_from b.first b.blocks (done_by c.args.by) in
    let space_at : ByteRun → SpaceClaims = λ b. with_taken (with_more claims (count b)) sectors in
    let run_is = c.byte_run-run.ensures.run in
    let holes : c.count_run-holes.result ≡ count run = c.count_run-holes.ensures.count ∙ ap (count_on is_empty (run.first - r.first) run.blocks) c.deref.ensures.value in
    let told : (seat_claims c.reserve_judged.new.seat).facts ≡ with_more claims c.count_run-holes.result = c.in_default-reserve_judged.ensures.ok.claims in
    let size : (seat_claims c.reserve_judged.new.seat).facts.size ≡ r.geometry.block_size = ap (λ (s : SpaceClaims). s.size) told ∙ c.self.invariant.0.space.sized in
    let bytes : List ℕ = next_bytes c.args.iov.now (run.to - run.from) in
    let cells : c.put_run.new.cells.items ≡ cells_at run =
    c.put_run.ensures.cells ∙ ap (on_each (put run bytes) 0 (run.first - r.first) run.blocks) c.place_run.ensures ∙ on_each-twice (placed_at is_empty (run.first - r.first) was sectors) (put run bytes) 0 (run.first - r.first) run.blocks was in
    let log : c.add.new.self.items ≡ log_at run =
    c.add.ensures.items ∙ ap (λ (st : Stamp). c.reserve.new.self.items ++ stamps_from run.first run.blocks st) c.stamp_done.ensures ∙ ap (λ l. l ++ stamps_from run.first run.blocks (done_by c.args.by)) c.reserve.ensures.items in
    let cookie = c.next_cookie-self-inside.ensures ∙ ap (λ t. r.cookie + one_where t) c.kinds_changed-changed.ensures in
    let space : (seat_claims c.take_at.new.seat).facts ≡ space_at run = c.take_at.ensures.claims ∙ ap (λ s. with_taken s sectors) (told ∙ ap (with_more claims) holes) in
    let cells_all = cells ∙ ap cells_at run_is in
    let log_all = log ∙ ap log_at run_is in
    let space_all = space ∙ ap space_at run_is in
    let make : List Cell × List (ℕ × Stamp) × ℕ × SpaceClaims → RangeView = λ p. range_view r.geometry r.mode r.first p.0 p.1 p.2 r.errors r.tickets (seat_view c.take_at.new.seat) p.3 in
    let counted = holes ∙ ap count run_is in
    let W : ℕ → Type 0 = λ m. All (HasSize m) sectors in
    let promised : PoolPlace = place_at (seat_view c.reserve_judged.new.seat) (seat_claims c.reserve_judged.new.seat).facts in
    let R : ℕ → Type 0 = λ m. TurnsFor m (ReservesAt opened m (Ok tt)) (place_at (seat_view r.seat) claims) promised in
    let T : ℕ → Type 0 = λ m. TurnsFor m (TakesAt opened m sectors) promised (place_at (seat_view c.take_at.new.seat) (seat_claims c.take_at.new.seat).facts) in
    let after : RangeView = range_view r.geometry r.mode r.first c.put_run.new.cells.items c.add.new.self.items c.next_cookie-self-inside.result r.errors r.tickets (seat_view c.take_at.new.seat) (seat_claims c.take_at.new.seat).facts in
    let D : RangeView → Type 0 = λ v. PutsDax opened v c.args.by c.args.seen c.args.from c.args.to (next_bytes c.args.iov.now (c.args.to - c.args.from)) after in
    let puts = subst D c.self.view_is
    (record {
      sectors = sectors;
      as_many = c.take_at.ensures.count ∙ counted;
      whole = subst W size c.take_at.ensures.sized;
      state = λ i. make (cells_all i, log_all i, cookie i, space_all i);
      promised = promised;
      reserved = subst R counted c.in_default-reserve_judged.ensures.ok.turn;
      took = subst T counted c.take_at.ensures.turn;
    }) in
    let many : run.blocks ≡ blocks_met c.args.self.now.geometry.block_size c.args.from c.args.to = ap (λ (b : ByteRun). b.blocks) run_is ∙ ap (λ (v : RangeView). blocks_met v.geometry.block_size c.args.from c.args.to) c.self.view_is in
    let seen = c.args.seen in
    let uses : Bool = not (is_mapped seen.extent.kind) in
    let worn_is : c.worn_stop.result ≡ worn view uses = c.worn_stop.ensures ∙ ap (λ t. where_true (t && nat_le WORN r.cookie) (Worn r.cookie)) c.kinds_changed-changed.ensures in
    let none : dax_put_refusal view seen ≡ None = ap (λ o. o orElse worn view uses) (sym c.stale_stop.ensures.refusal ∙ c.in_default.is) ∙ sym worn_is ∙ c.in_default-worn_stop.is in
    let V : RangeView → Type 0 = λ v. dax_put_refusal v seen ≡ None in
    let asked = put_held (words g.row.R g.row.F g.F.FnMut).step _ _ c.args.judge.now c.reserve_judged.new.judge opened _ _ c.count_run-holes.result many c.in_default-reserve_judged.ensures.ok in
    record {
      made = subst V c.self.view_is none;
      state = puts;
      moved = c.put_run.ensures.iov ∙ ap (λ (b : ByteRun). past c.args.iov.now (b.to - b.from)) run_is;
      judged = asked.0;
      passed = asked.1;
      refused = tt;
      unchanged = tt;
      nothing = tt;
    }

pub returns-in-Some-clause-answers : goal.returns-in-Some-clause-answers
returns-in-Some-clause-answers g c =
    let seen = c.args.seen in
    let V : RangeView → Type 0 = λ v. dax_put_refusal v seen ≡ Some c.in-Some.fault in
    let r = c.self.inside in
    let view : RangeView = range_view r.geometry r.mode r.first r.cells.items r.log.items r.cookie r.errors r.tickets (seat_view r.seat) (seat_claims r.seat).facts in
    let is : dax_put_refusal view seen ≡ Some c.in-Some.fault = ap (λ o. o orElse worn view (not (is_mapped seen.extent.kind))) (sym c.stale_stop.ensures.refusal ∙ c.in-Some.is) in
    record {
      made = tt;
      state = tt;
      moved = tt;
      judged = record { answer = None; is_asked = refl };
      passed = tt;
      refused = put_refused_for _ (dax_put_refusal c.args.self.now seen) c.in-Some.fault (subst V c.self.view_is is);
      unchanged = put_stays (pool_cell c.args.space.now).opening (holes_met c.args.self.now c.args.from c.args.to) c.args.self.now _ (Stale seen.cookie r.cookie) c.in-Some.fault c.stale_stop.result c.stale_stop.ensures.refusal c.in-Some.is refl;
      nothing = refl;
    }

pub returns-in-Some-worn_stop-clause-answers : goal.returns-in-Some-worn_stop-clause-answers
returns-in-Some-worn_stop-clause-answers g c =
    let r = c.self.inside in
    let was : List Cell = r.cells.items in
    let seen = c.args.seen in
    let view : RangeView = range_view r.geometry r.mode r.first was r.log.items r.cookie r.errors r.tickets (seat_view r.seat) (seat_claims r.seat).facts in
    let uses : Bool = not (is_mapped seen.extent.kind) in
    let worn_is : c.worn_stop.result ≡ worn view uses = c.worn_stop.ensures ∙ ap (λ t. where_true (t && nat_le WORN r.cookie) (Worn r.cookie)) c.kinds_changed-changed.ensures in
    let V : RangeView → Type 0 = λ v. dax_put_refusal v seen ≡ Some c.in-Some-worn_stop.fault in
    let is : dax_put_refusal view seen ≡ Some c.in-Some-worn_stop.fault = ap (λ o. o orElse worn view uses) (sym c.stale_stop.ensures.refusal ∙ c.in_default.is) ∙ sym worn_is ∙ c.in-Some-worn_stop.is in
    record {
      made = tt;
      state = tt;
      moved = tt;
      judged = record { answer = None; is_asked = refl };
      passed = tt;
      refused = put_refused_for _ (dax_put_refusal c.args.self.now seen) c.in-Some-worn_stop.fault (subst V c.self.view_is is);
      unchanged = put_stays (pool_cell c.args.space.now).opening (holes_met c.args.self.now c.args.from c.args.to) c.args.self.now _ (Worn r.cookie) c.in-Some-worn_stop.fault c.worn_stop.result c.worn_stop.ensures c.in-Some-worn_stop.is refl;
      nothing = refl;
    }

pub returns-in_default-reserve-clause-answers : goal.returns-in_default-reserve-clause-answers
returns-in_default-reserve-clause-answers g c =
    let r = c.self.inside in
    let was : List Cell = r.cells.items in
    let seen = c.args.seen in
    let view : RangeView = range_view r.geometry r.mode r.first was r.log.items r.cookie r.errors r.tickets (seat_view r.seat) (seat_claims r.seat).facts in
    let uses : Bool = not (is_mapped seen.extent.kind) in
    let worn_is : c.worn_stop.result ≡ worn view uses = c.worn_stop.ensures ∙ ap (λ t. where_true (t && nat_le WORN r.cookie) (Worn r.cookie)) c.kinds_changed-changed.ensures in
    let none : dax_put_refusal view seen ≡ None = ap (λ o. o orElse worn view uses) (sym c.stale_stop.ensures.refusal ∙ c.in_default.is) ∙ sym worn_is ∙ c.in_default-worn_stop.is in
    let V : RangeView → Type 0 = λ v. dax_put_refusal v seen ≡ None in
    let at : List (ℕ × Stamp) → RangeView = λ l. range_view r.geometry r.mode r.first was l r.cookie r.errors r.tickets (seat_view r.seat) (seat_claims r.seat).facts in
    record {
      made = tt;
      state = tt;
      moved = tt;
      judged = record { answer = None; is_asked = refl };
      passed = tt;
      refused = put_starved _ (dax_put_refusal c.args.self.now seen) (subst V c.self.view_is none);
      unchanged = ap at c.reserve.ensures.items ∙ c.self.view_is;
      nothing = refl;
    }

pub returns-in_default-with_capacity-clause-answers : goal.returns-in_default-with_capacity-clause-answers
returns-in_default-with_capacity-clause-answers g c =
    let r = c.self.inside in
    let was : List Cell = r.cells.items in
    let seen = c.args.seen in
    let view : RangeView = range_view r.geometry r.mode r.first was r.log.items r.cookie r.errors r.tickets (seat_view r.seat) (seat_claims r.seat).facts in
    let uses : Bool = not (is_mapped seen.extent.kind) in
    let worn_is : c.worn_stop.result ≡ worn view uses = c.worn_stop.ensures ∙ ap (λ t. where_true (t && nat_le WORN r.cookie) (Worn r.cookie)) c.kinds_changed-changed.ensures in
    let none : dax_put_refusal view seen ≡ None = ap (λ o. o orElse worn view uses) (sym c.stale_stop.ensures.refusal ∙ c.in_default.is) ∙ sym worn_is ∙ c.in_default-worn_stop.is in
    let V : RangeView → Type 0 = λ v. dax_put_refusal v seen ≡ None in
    let at : List (ℕ × Stamp) → RangeView = λ l. range_view r.geometry r.mode r.first was l r.cookie r.errors r.tickets (seat_view r.seat) (seat_claims r.seat).facts in
    record {
      made = tt;
      state = tt;
      moved = tt;
      judged = record { answer = None; is_asked = refl };
      passed = tt;
      refused = put_starved _ (dax_put_refusal c.args.self.now seen) (subst V c.self.view_is none);
      unchanged = ap at c.reserve.ensures.items ∙ c.self.view_is;
      nothing = refl;
    }

pub returns-in-Err-clause-answers : goal.returns-in-Err-clause-answers
returns-in-Err-clause-answers g c =
    let r = c.self.inside in
    let was : List Cell = r.cells.items in
    let seen = c.args.seen in
    let view : RangeView = range_view r.geometry r.mode r.first was r.log.items r.cookie r.errors r.tickets (seat_view r.seat) (seat_claims r.seat).facts in
    let uses : Bool = not (is_mapped seen.extent.kind) in
    let worn_is : c.worn_stop.result ≡ worn view uses = c.worn_stop.ensures ∙ ap (λ t. where_true (t && nat_le WORN r.cookie) (Worn r.cookie)) c.kinds_changed-changed.ensures in
    let none : dax_put_refusal view seen ≡ None = ap (λ o. o orElse worn view uses) (sym c.stale_stop.ensures.refusal ∙ c.in_default.is) ∙ sym worn_is ∙ c.in_default-worn_stop.is in
    let opened : PoolView = (pool_cell c.args.space.now).opening in
    let fault = c.in-Err.fault in
    let count : ByteRun → ℕ = λ b. count_on is_empty (b.first - r.first) b.blocks was in
    let run_is = c.byte_run-run.ensures.run in
    let counted = c.count_run-holes.ensures.count ∙ ap (count_on is_empty (c.byte_run-run.result.first - r.first) c.byte_run-run.result.blocks) c.deref.ensures.value ∙ ap count run_is in
    let many = ap (λ (b : ByteRun). b.blocks) run_is in
    let make : List (ℕ × Stamp) × SpaceClaims → RangeView = λ p. range_view r.geometry r.mode r.first was p.0 r.cookie r.errors r.tickets (seat_view c.reserve_judged.new.seat) p.1 in
    let after : RangeView = make (c.reserve.new.self.items, (seat_claims c.reserve_judged.new.seat).facts) in
    let items = c.reserve.ensures.items in
    let same = c.in-Err.ensures.same in
    let Q : RangeView → Type 0 = λ v. (j : Judges (words g.row.R g.row.F g.F.FnMut).step (blocks_met v.geometry.block_size c.args.from c.args.to) c.args.judge.now c.reserve_judged.new.judge) × RefusesPut (holes_met v c.args.from c.args.to) (dax_put_refusal v seen) j.answer fault in
    let asked = subst Q c.self.view_is (put_lost (words g.row.R g.row.F g.F.FnMut).step _ _ c.args.judge.now c.reserve_judged.new.judge opened _ _ c.count_run-holes.result (holes_met view c.args.from c.args.to) (dax_put_refusal view seen) fault many counted none c.in-Err.ensures.err) in
    let L : RangeView → Type 0 = λ v. LeavesPut opened (holes_met v c.args.from c.args.to) fault v after in
    record {
      made = tt;
      state = tt;
      moved = tt;
      judged = asked.0;
      passed = tt;
      refused = asked.1;
      unchanged = subst L c.self.view_is (put_left opened c.count_run-holes.result (holes_met view c.args.from c.args.to) _ _ fault view after counted (λ i. make (items i, same i)) c.in-Err.ensures.err);
      nothing = refl;
    }
